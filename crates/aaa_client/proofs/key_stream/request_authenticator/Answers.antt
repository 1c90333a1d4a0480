use Rattle.std.proofs.Common.{◌≡◌, ◌∙◌, ℕ, ◌+◌, ◌*◌, ◌%◌, ◌^◌, List, ap, refl, arith}
use Rattle.std.specs.Int.{w32, to_le_bytes}
use Rattle.rand_chacha.specs.ChaCha.{ChaCha, key_of, next_word, word_at}
use Rattle.aaa_defs.specs.Request.{authenticator, seed_word}
use Rattle.aaa_client.proofs.key_stream.request_authenticator.Goals as goal

-- the generator of a seed at a place of stream 0
abbrev stands : List ℕ → ℕ → ChaCha
stands seed place = record { key = key_of seed; stream = 0; word_pos = place }

read : (seed : List ℕ) (place : ℕ) (g h : ChaCha) (word : ℕ) → g ≡ stands seed place → (word, h) ≡ next_word 10 g → word ≡ word_at 10 (key_of seed) 0 place
read seed place g h word at step = ap (λ (x : ℕ × ChaCha). x.0) step ∙ ap (λ (f : ChaCha). (next_word 10 f).0) at

goes : (seed : List ℕ) (place after : ℕ) (g h : ChaCha) (word : ℕ) → g ≡ stands seed place → (word, h) ≡ next_word 10 g → (place + 1) % 2 ^ 68 ≡ after → h ≡ stands seed after
goes seed place after g h word at step is =
    ap (λ (x : ℕ × ChaCha). x.1) step ∙ ap (λ (f : ChaCha). (next_word 10 f).1) at ∙ ap (stands seed) is

pub returns : goal.returns
unfolding authenticator
returns c =
    let seed : List ℕ = c.args.seed in
    let k : ℕ = c.args.k in
    let place : 4 * c.from.result % 2 ^ 68 ≡ 4 * k = omega (arith, c.from.ensures) in
    let at0 : c.set_word_pos.new.self ≡ stands seed (4 * k) =
    c.set_word_pos.ensures ∙ ap (λ (g : ChaCha). record g { word_pos = 4 * c.from.result % 2 ^ 68 }) c.from_seed-words.ensures ∙ ap (stands seed) place in
    let at1 : c.next_word.new.self ≡ stands seed (4 * k + 1) = goes seed (4 * k) (4 * k + 1) c.set_word_pos.new.self c.next_word.new.self c.next_word.result at0 c.next_word.ensures (omega arith) in
    let at2 : c.next_word-2.new.self ≡ stands seed (4 * k + 2) = goes seed (4 * k + 1) (4 * k + 2) c.next_word.new.self c.next_word-2.new.self c.next_word-2.result at1 c.next_word-2.ensures (omega arith) in
    let at3 : c.next_word-3.new.self ≡ stands seed (4 * k + 3) = goes seed (4 * k + 2) (4 * k + 3) c.next_word-2.new.self c.next_word-3.new.self c.next_word-3.result at2 c.next_word-3.ensures (omega arith) in
    let b0 : c.to_le_bytes.result ≡ seed_word seed (4 * k) = c.to_le_bytes.ensures ∙ ap (to_le_bytes w32) (read seed (4 * k) c.set_word_pos.new.self c.next_word.new.self c.next_word.result at0 c.next_word.ensures) in
    let b1 : c.to_le_bytes-2.result ≡ seed_word seed (4 * k + 1) = c.to_le_bytes-2.ensures ∙ ap (to_le_bytes w32) (read seed (4 * k + 1) c.next_word.new.self c.next_word-2.new.self c.next_word-2.result at1 c.next_word-2.ensures) in
    let b2 : c.to_le_bytes-3.result ≡ seed_word seed (4 * k + 2) = c.to_le_bytes-3.ensures ∙ ap (to_le_bytes w32) (read seed (4 * k + 2) c.next_word-2.new.self c.next_word-3.new.self c.next_word-3.result at2 c.next_word-3.ensures) in
    let b3 : c.to_le_bytes-4.result ≡ seed_word seed (4 * k + 3) = c.to_le_bytes-4.ensures ∙ ap (to_le_bytes w32) (read seed (4 * k + 3) c.next_word-3.new.self c.next_word-4.new.self c.next_word-4.result at3 c.next_word-4.ensures) in
    rw (b0, b1, b2, b3) refl
