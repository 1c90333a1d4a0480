use Rattle.std.proofs.Common.{◌≡◌, ℕ, ◌+◌, ◌-◌, ◌%◌, not, true, false, Option, Some, None, refl, sym, ap, ◌∙◌, arith, map}
use Rattle.std.specs.Prelude.{find, is_some}
use Rattle.std.specs.List.{range_with_len}
use Rattle.std.specs.Option.{option_map}
use Rattle.aaa_defs.specs.declared.TheConstants.{NAMES}
use Rattle.aaa_defs.specs.Waits.{Waits, is_free, round_from, after_last}
use Rattle.aaa_defs.proofs.Round.{round-more, round-found, some-free, next-is, after-small}
use Rattle.aaa_client.proofs.waits.Waits.next_name.Goals as goal

is_some-mapped : {X Y : Type 0} (f : X → Y) (o : Option X) → is_some (option_map f o) ≡ is_some o
is_some-mapped f None = refl
is_some-mapped f (Some x) = refl

pub returns-then-is_none-clause-value : goal.returns-then-is_none-clause-value
returns-then-is_none-clause-value c =
    let w : Waits = c.args.self.now in
    let first : ℕ = c.after-first.result in
    let id : ℕ = (first + c.loop-step.step) % NAMES in
    let cast : (c.from.result + c.loop-step.step) % NAMES ≡ id = ap (λ (k : ℕ). (k + c.loop-step.step) % NAMES) c.from.ensures in
    let free : is_free w id ≡ true =
    ap (is_free w) (sym cast) ∙ ap not (ap is_some (sym c.named.ensures) ∙ is_some-mapped (λ r. r.now) c.named.result ∙ c.is_none.ensures ∙ ap not c.if-is_none.true) in
    let start : after_last w.last ≡ first = ap (λ (v : Waits). after_last v.last) (sym c.self.view_is) ∙ sym c.after-first.ensures in
    cast ∙ next-is w id (ap (λ n. find (is_free w) (round_from n)) start ∙ sym c.loop-step.invariant ∙ round-found (is_free w) (λ step. (first + step) % NAMES) c.loop-step.step NAMES c.loop-step-test.true free)

pub loop-step-preserved : goal.loop-step-preserved
loop-step-preserved c =
    let w : Waits = c.args.self.now in
    let first : ℕ = c.after-first.result in
    let cast : (c.from.result + c.loop-step.step) % NAMES ≡ (first + c.loop-step.step) % NAMES = ap (λ (k : ℕ). (k + c.loop-step.step) % NAMES) c.from.ensures in
    let used : is_free w ((first + c.loop-step.step) % NAMES) ≡ false =
    ap (is_free w) (sym cast) ∙ ap not (ap is_some (sym c.named.ensures) ∙ is_some-mapped (λ r. r.now) c.named.result ∙ c.is_none.ensures ∙ ap not c.if-is_none.false) in
    sym (round-more (is_free w) (λ step. (first + step) % NAMES) c.loop-step.step NAMES c.loop-step-test.true used) ∙ c.loop-step.invariant

pub unreachable-requires : goal.unreachable-requires
unreachable-requires c =
    let w : Waits = c.args.self.now in
    let first : ℕ = c.after-first.result in
    let done : c.loop-step.step ≡ NAMES = omega (arith, c.loop-step.auto.step-end, c.loop-step-test.false) in
    let start : first ≡ after_last w.last = c.after-first.ensures ∙ ap (λ (v : Waits). after_last v.last) c.self.view_is in
    let none : None ≡ find (is_free w) (round_from first) =
    sym (ap (λ (s : ℕ). find (is_free w) (map (λ step. (first + step) % NAMES) (range_with_len s (NAMES - s)))) done) ∙ c.loop-step.invariant in
    some-free w first (omega (arith, start, after-small w.last)) (omega (arith, c.requires)) (sym none)
