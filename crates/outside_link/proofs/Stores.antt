-- What a link in memory keeps, after one more datagram.
use Rattle.std.proofs.Common.{◌≡◌, ℕ, ◌+◌, ◌≤◌, List, [], ◌∷◌, ◌++◌, refl, ap, ap₂, ◌∙◌, arith, length, length-drop, take, drop, suc}
use Rattle.std.proofs.lemmas.List.{map-append, take-append-le, drop-append-le, drop_all}
use Rattle.std.proofs.Math.Seq.{take-length}
use Rattle.outside_link.specs.declared.outbox.Head.{Head}
use Rattle.outside_link.specs.Stored.{sent_at, sent_of, StandWithin}

same_at : (octets piece : List ℕ) (h : Head) → h.at + h.len ≤ length octets → sent_at (octets ++ piece) h ≡ sent_at octets h
same_at octets piece h p =
    ap (λ l. record { channel = h.channel; to = h.to; octets = l })
    (ap (take h.len) (drop-append-le h.at octets piece (omega (arith, p))) ∙ take-append-le h.len (drop h.at octets) piece (omega (arith, p, length-drop h.at octets)))

same_of : (octets piece : List ℕ) (heads : List Head) → StandWithin octets heads → sent_of (octets ++ piece) heads ≡ sent_of octets heads
same_of octets piece [] within = refl
same_of octets piece (h ∷ heads) within =
    ap₂ (λ x xs. x ∷ xs) (same_at octets piece h (within 0 h (omega arith))) (same_of octets piece heads (λ k d p. within (suc k) d (omega (arith, p))))

pub sent_more : (octets octets' piece : List ℕ) (heads heads' : List Head) (h : Head) → StandWithin octets heads → octets' ≡ octets ++ piece → heads' ≡ heads ++ h ∷ []
    → h.at ≡ length octets → h.len ≡ length piece → sent_of octets' heads' ≡ sent_of octets heads ++ record { channel = h.channel; to = h.to; octets = piece } ∷ []
sent_more octets octets' piece heads heads' h within grown added at len =
    let whole : take h.len (drop h.at (octets ++ piece)) ≡ piece =
    ap₂ (λ n m. take n (drop m (octets ++ piece))) len at ∙ ap (take (length piece)) (drop-append-le (length octets) octets piece (omega arith) ∙ ap (λ l. l ++ piece) (drop_all (length octets) octets (omega arith))) ∙ take-length piece in
    ap₂ sent_of grown added ∙ map-append (sent_at (octets ++ piece)) heads (h ∷ [])
    ∙ ap₂ (λ xs l. xs ++ record { channel = h.channel; to = h.to; octets = l } ∷ []) (same_of octets piece heads within) whole
