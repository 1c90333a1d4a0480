-- The fields of a frame are those at their places, and no others.
use Rattle.std.proofs.Common.{◌≡◌, ℕ, ◌/◌, ◌%◌, ◌≤◌, nat_lt, List, ◌++◌, length, slice_index, drop, take, Result, Ok, Err, sym, ap, ap₂, ◌∙◌, arith, append_assoc, length-append, length-take-le, length-drop, take-append-drop, ltb-true, ltb-false}
use Rattle.std.proofs.lemmas.List.{take_at, drop_at, get_or-drop, drop-drop}
use Rattle.std.proofs.lemmas.Bool.Decides.{nat_tests}
use Rattle.wire_defs.specs.declared.EthDrop.{EthDrop}
use Rattle.wire_defs.specs.declared.EthDrop.TheVariants.{Runt, Giant}
use Rattle.wire_defs.specs.Number.{IsOctets, two_octets, pair}
use Rattle.wire_defs.specs.Ethernet.{Frame, IsFrame, EthOf, eth_of, frame_of, kind, plain_text, tag_kind, tagged_text, tagged}
use Rattle.wire_defs.proofs.NumberLemmas.{if_cases, pair_of_two, drop_pair}

-- the two addresses, and what follows them
two_addresses : (octets : List ℕ) → octets ≡ take 6 octets ++ (take 6 (drop 6 octets) ++ drop 12 octets)
two_addresses octets =
    sym (take-append-drop 6 octets)
    ∙ ap (λ rest. take 6 octets ++ rest) (sym (take-append-drop 6 (drop 6 octets)) ∙ ap (λ rest. take 6 (drop 6 octets) ++ rest) (drop-drop 6 6 octets))

-- the fields at their places, one after another
pub IsFrame-frame_of : (octets : List ℕ) → IsOctets octets → 14 ≤ length octets → IsFrame octets (frame_of octets)
IsFrame-frame_of octets fits h = record {
  split =
      two_addresses octets
      ∙ ap (λ rest. take 6 octets ++ (take 6 (drop 6 octets) ++ rest)) (drop_pair octets 12 fits (omega arith))
      ∙ simp append_assoc;
  to_six = length-take-le 6 octets (omega arith);
  source_six = length-take-le 6 (drop 6 octets) (omega (arith, length-drop 6 octets));
}

-- what stands where a frame has its parts
record HasParts (octets : List ℕ) (frame : Frame) : Type 0 where
  pub front : take 6 octets ≡ frame.to
  pub middle : take 6 (drop 6 octets) ≡ frame.source
  pub back : drop 12 octets ≡ two_octets frame.kind ++ frame.body

HasParts-from : (octets : List ℕ) (frame : Frame) → IsFrame octets frame → HasParts octets frame
HasParts-from octets frame h =
    let whole : octets ≡ frame.to ++ (frame.source ++ (two_octets frame.kind ++ frame.body)) = h.split ∙ simp append_assoc in
    let rest : drop 6 octets ≡ frame.source ++ (two_octets frame.kind ++ frame.body) = ap (drop 6) whole ∙ drop_at frame.to _ 6 h.to_six in record {
      front = ap (take 6) whole ∙ take_at frame.to _ 6 h.to_six;
      middle = ap (take 6) rest ∙ take_at frame.source _ 6 h.source_six;
      back = sym (drop-drop 6 6 octets) ∙ ap (drop 6) rest ∙ drop_at frame.source _ 6 h.source_six;
    }

same_frame : (f g : Frame) → f.to ≡ g.to → f.source ≡ g.source → f.kind ≡ g.kind → f.body ≡ g.body → f ≡ g
same_frame f g to from kind body =
    let made : (to source : List ℕ) (kind : ℕ) (body : List ℕ) → Frame = λ to source kind body. record { to = to; source = source; kind = kind; body = body } in
    ap (λ x. made x f.source f.kind f.body) to
    ∙ ap (λ x. made g.to x f.kind f.body) from
    ∙ ap (λ x. made g.to g.source x f.body) kind
    ∙ ap (λ x. made g.to g.source g.kind x) body

pub frame_of_only : (octets : List ℕ) (frame : Frame) → IsFrame octets frame → frame ≡ frame_of octets
frame_of_only octets frame h =
    let parts = HasParts-from octets frame h in
    let high : slice_index octets 12 ≡ frame.kind / 256 = sym (get_or-drop 12 octets 0 0) ∙ ap (λ rest. slice_index rest 0) parts.back in
    let low : slice_index octets 13 ≡ frame.kind % 256 = sym (get_or-drop 12 octets 1 0) ∙ ap (λ rest. slice_index rest 1) parts.back in
    let number : pair octets 12 ≡ frame.kind = omega (arith, pair_of_two frame.kind) in
    let body : drop 14 octets ≡ frame.body = sym (drop-drop 2 12 octets) ∙ ap (drop 2) parts.back in
    same_frame frame (frame_of octets) (sym parts.front) (sym parts.middle) (sym number) (sym body)

-- a frame has its fields, and no others
pub EthOf-eth_of : (octets : List ℕ) → IsOctets octets → EthOf octets (eth_of octets)
EthOf-eth_of octets fits =
    if_cases (EthOf octets) (nat_lt (length octets) 14) _ _ (λ h. ltb-true _ _ h) (λ long.
    if_cases (EthOf octets) (nat_lt 1518 (length octets)) _ _ (λ h. ltb-true _ _ h) (λ short.
    (ltb-false _ _ long, ltb-false _ _ short, IsFrame-frame_of octets fits (ltb-false _ _ long))))

pub eth_of_only : (octets : List ℕ) (r : Result Frame EthDrop) → EthOf octets r → r ≡ eth_of octets
eth_of_only octets (Err Runt) h = grind (arith, nat_tests)
eth_of_only octets (Err Giant) h = grind (arith, nat_tests)
eth_of_only octets (Ok frame) (low, high, h) = let same = frame_of_only octets frame h in grind (arith, nat_tests)

-- the octets of a frame are what it is written as
pub plain_text-of : (octets : List ℕ) (frame : Frame) → IsFrame octets frame → plain_text frame ≡ octets
plain_text-of octets frame h = sym h.split

-- a frame written with a tag is its octets behind that tag
pub tagged_text-of : (vlan : ℕ) (octets : List ℕ) (frame : Frame) → IsFrame octets frame → tagged_text vlan frame ≡ tagged vlan octets
tagged_text-of vlan octets frame h =
    let addresses = frame.to ++ frame.source in
    let whole : octets ≡ addresses ++ (two_octets frame.kind ++ frame.body) = h.split ∙ append_assoc addresses (two_octets frame.kind) frame.body in
    let front : take 12 octets ≡ addresses = ap (take 12) whole ∙ take_at addresses _ 12 (omega (arith, length-append frame.to frame.source, h.to_six, h.source_six)) in
    append_assoc (addresses ++ two_octets tag_kind ++ two_octets vlan) (two_octets frame.kind) frame.body
    ∙ ap₂ (λ first last. first ++ two_octets tag_kind ++ two_octets vlan ++ last) (sym front) (sym (HasParts-from octets frame h).back)
