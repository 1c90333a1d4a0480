use Rattle.std.proofs.Common.{◌≡◌, ◌+◌, ◌-◌, ◌≤◌, ◌++◌, length, take, drop, sym, ap, ◌∙◌, arith, length-drop, length-append}
use Rattle.std.proofs.lemmas.List.{drop-drop, nil_from_length}
use Rattle.std.proofs.Math.Seq.{take-length}
use Rattle.outside_core.proofs.Moves.{moved}
use Rattle.outside_core.proofs.memory.MemSourceSource.read.Goals as goal

pub returns-clause-octets : goal.returns-clause-octets
returns-clause-octets c =
    let at = c.self.inside.at in
    let octets = c.self.inside.octets.items in
    let n = c.min-count.result in
    let copied = c.copy_from_slice.new.self in
    let buf = c.args.buf.now in
    let rest = drop at octets in
    let seen : rest ≡ c.args.self.now.left = ap (λ v. v.left) c.self.view_is in
    let later : drop n rest ≡ drop (at + n) octets = drop-drop n at octets in
    let whole : take (length octets - at) rest ≡ rest = ap (λ k. take k rest) (sym (length-drop at octets)) ∙ take-length rest in
    let read : take (length c.deref-2.result.now - at) (drop at c.deref-2.result.now) ≡ rest =
    ap (λ l. take (length l - at) (drop at l)) c.deref-2.ensures.value ∙ whole in
    let after : copied ≡ take n rest = c.copy_from_slice.ensures.after ∙ ap (take n) read in
    let bound : n ≤ length rest = omega (arith, length-drop at octets) in (
      sym seen ∙ moved rest copied (drop n buf) n after bound ∙ ap (λ l. take n (copied ++ drop n buf) ++ l) later,
      λ zero room.
          let none : length rest ≡ 0 = omega (arith, length-drop at octets, length-append copied (drop n buf), length-drop n buf, ap length after, c.copy_from_slice.ensures.len) in
          sym later ∙ ap (λ k. drop k rest) zero ∙ nil_from_length rest none,
    )
