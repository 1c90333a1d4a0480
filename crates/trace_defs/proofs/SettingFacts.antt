-- What is known of settings that were read.
use Rattle.std.proofs.Common.{◌≡◌, ◌≢◌, ℕ, zero, suc, ◌*◌, ◌^◌, ◌<◌, ◌≤◌, max, Bool, ◌&&◌, true, false, not, eqb, ltb, leb, bit_and, bit_or, List, [], ◌∷◌, ◌++◌, length, Some, refl, sym, ap, ◌∙◌, arith, append-nil, append_assoc}
use Rattle.std.specs.Int.{bit_at}
use Rattle.std.specs.List.{list_all}
use Rattle.std.specs.Str.{bytes_eq}
use Rattle.std.proofs.lemmas.Bool.{and_parts, and_from, or_from, or_left, or_right}
use Rattle.std.proofs.lemmas.List.Folds.{list_any-append}
use Rattle.std.proofs.lemmas.Slice.Eq.{bytes_eq-Decides}
use Rattle.std.proofs.lemmas.Bool.Decides.{nat_tests}
use Rattle.std.proofs.lemmas.Nat.Bits.{and_pow, bit_at_or, bit_at-pow_other}
use Rattle.hex.specs.Hex.{IsBytes}
use Rattle.wire_defs.specs.Number.{number_in}
use Rattle.switch_event.specs.Config.{Config, Client, empty, within, has_address, is_valid_client, clients_apart, are_valid_ports, are_valid_clients, are_valid_names, are_valid_times, is_valid_clock, is_valid}
use Rattle.trace_defs.specs.declared.given.TheConstants.{SERVER}
use Rattle.trace_defs.specs.Line.{Line, was_given, with_given}
use Rattle.trace_defs.specs.Line.Line.{Blank, Begin, Sync, Setting, Entry}
use Rattle.trace_defs.proofs.NumberText.{number_in-some}
use Rattle.trace_defs.proofs.PortFacts.{within-true}
use Rattle.trace_defs.specs.Sized.{IsWithin}
use Rattle.trace_defs.specs.Settings.{AreNew, IsClient, IsRead}

-- ---- the settings that were given

-- another setting does not count as given
pub was_given-other : (k j given : ℕ) → j ≢ k → was_given j (with_given k given) ≡ was_given j given
was_given-other k j given other = ap (λ n. not (eqb n 0)) same
  where
    none : (n : ℕ) → max n 0 ≡ n
    none n = omega arith

    same : bit_and (bit_or given (2 ^ k)) (2 ^ j) ≡ bit_and given (2 ^ j)
    same =
        and_pow (bit_or given (2 ^ k)) j
        ∙ ap (λ b. b * 2 ^ j) (bit_at_or given (2 ^ k) j ∙ ap (max (bit_at given j)) (bit_at-pow_other k j other) ∙ none (bit_at given j))
        ∙ sym (and_pow given j)

-- ---- clients

pub AreNew-more : (before clients : List Client) (client : Client) → AreNew before clients → IsClient client → has_address client.ip (before ++ clients) ≡ false → AreNew before (clients ++ client ∷ [])
AreNew-more before [] client hs h new = (h, ap (has_address client.ip) (sym (append-nil before)) ∙ new, tt)
AreNew-more before (c ∷ clients) client hs h new =
    (hs.0, hs.1, AreNew-more (before ++ c ∷ []) clients client hs.2 h (ap (has_address client.ip) (append_assoc before (c ∷ []) clients) ∙ new))

-- ---- settings

pub in_range : (least most : ℕ) (word : List ℕ) (n : ℕ) → number_in least most word ≡ Some n → IsWithin least most n
in_range least most word n h = record { low = (number_in-some least most word n h).0; high = (number_in-some least most word n h).1 }

-- what a line says that stands before `begin`
abbrev pub IsBefore : ℕ → Line → Type 0
IsBefore given Blank = Unit {0}
IsBefore given Begin = was_given SERVER given ≡ true
IsBefore given Sync = ⊥
IsBefore given (Setting new given') = IsRead new given'
IsBefore given (Entry r) = ⊥

-- ---- the settings before the first line

bytes_by_test : (octets : List ℕ) → list_all (λ x. ltb x 256) octets ≡ true → IsBytes octets
bytes_by_test [] h k = omega arith
bytes_by_test (x ∷ octets) h zero = small x (and_parts (ltb x 256) (list_all (λ x. ltb x 256) octets) h).0
  where
    small : (x : ℕ) → ltb x 256 ≡ true → x < 256
    small x h = grind (arith, nat_tests)
bytes_by_test (x ∷ octets) h (suc k) = bytes_by_test octets (and_parts (ltb x 256) (list_all (λ x. ltb x 256) octets) h).1 k

pub empty-read : IsRead empty 0
empty-read = record {
  bridge = record { low = omega arith; high = omega arith; octets = bytes_by_test empty.bridge refl };
  nas = record { ip = (omega arith, omega arith, omega arith, omega arith); name = record { some = omega arith; plain = refl }; short = omega arith };
  server = λ e. absurd (never e);
  clients = record { new = tt; few = omega arith };
  ports = refl;
  timed = record {
    quiet = record { low = omega arith; high = omega arith };
    server = record { low = omega arith; high = omega arith };
    reauth_max = record { low = omega arith; high = omega arith };
    reauth_period = record { low = omega arith; high = omega arith };
  };
  clocked = record {
    wait = record { low = omega arith; high = omega arith };
    window_day = record { low = omega arith; high = omega arith };
    clock_fits = record { low = omega arith; high = omega arith };
  };
  seed = record { low = omega arith; high = omega arith; octets = bytes_by_test empty.seed refl };
}
  where
    never : false ≡ true → ⊥
    never e = cc

-- ---- they are valid, once a server was given

valid_clients : (before clients : List Client) → AreNew before clients → (list_all is_valid_client clients ≡ true) × (clients_apart clients ≡ true)
valid_clients before [] hs = (refl, refl)
valid_clients before (client ∷ clients) hs =
    let rest = valid_clients (before ++ client ∷ []) clients hs.2 in (
      and_from (is_valid_client client) (list_all is_valid_client clients) (within-true 1 64 (length client.secret) (record { low = hs.0.secret.low; high = hs.0.secret.high })) rest.0,
      and_from (not (has_address client.ip clients)) (clients_apart clients) (ap not (apart (before ++ client ∷ []) clients (last before) hs.2)) rest.1,
    )
  where
    same : has_address client.ip (client ∷ []) ≡ true
    same = or_left (bytes_eq client.ip client.ip) false ((bytes_eq-Decides client.ip client.ip).1 refl)

    last : (before : List Client) → has_address client.ip (before ++ client ∷ []) ≡ true
    last before = list_any-append (λ c. bytes_eq c.ip client.ip) before (client ∷ []) ∙ or_right (has_address client.ip before) (has_address client.ip (client ∷ [])) same

    -- a client that is among those before is none of those behind
    apart : (before clients : List Client) → has_address client.ip before ≡ true → AreNew before clients → has_address client.ip clients ≡ false
    apart before [] is hs = refl
    apart before (c ∷ clients) is hs =
        or_from (bytes_eq c.ip client.ip) (has_address client.ip clients) (other (bytes_eq c.ip client.ip) refl)
        (apart (before ++ c ∷ []) clients (list_any-append (λ d. bytes_eq d.ip client.ip) before (c ∷ []) ∙ or_left (has_address client.ip before) (has_address client.ip (c ∷ [])) is) hs.2)
      where
        other : (b : Bool) → bytes_eq c.ip client.ip ≡ b → b ≡ false
        other false e = refl
        other true e = absurd (clash (sym is ∙ ap (λ ip. has_address ip before) (sym ((bytes_eq-Decides c.ip client.ip).0 e)) ∙ hs.1))
          where
            clash : true ≡ false → ⊥
            clash e = cc

pub IsRead-valid : (config : Config) (given : ℕ) → IsRead config given → was_given SERVER given ≡ true → is_valid config ≡ true
IsRead-valid config given h served =
    let server = h.server served in
    let clients = valid_clients [] config.clients h.clients.new in
    let some : IsWithin 1 32 (length config.nas.name) = record { low = omega (arith, h.nas.name.some); high = h.nas.short } in
    and_from (are_valid_ports config.ports && are_valid_clients config.clients && are_valid_names config && are_valid_times config.times) (is_valid_clock config)
    (and_from (are_valid_ports config.ports && are_valid_clients config.clients && are_valid_names config) (are_valid_times config.times)
    (and_from (are_valid_ports config.ports && are_valid_clients config.clients) (are_valid_names config)
    (and_from (are_valid_ports config.ports) (are_valid_clients config.clients) h.ports (and_from (list_all is_valid_client config.clients) (clients_apart config.clients) clients.0 clients.1))
    (three (within-true 1 32 (length config.nas.name) some) (within-true 1 65535 config.server.port server.port)
    (within-true 1 64 (length config.secret) (record { low = server.shared.low; high = server.shared.high }))))
    (and_from (within 1 65535 config.times.quiet && within 1 65535 config.times.server && within 1 10 config.times.reauth_max) (within 1 4294967295 config.times.reauth_period)
    (three (within-true 1 65535 config.times.quiet h.timed.quiet) (within-true 1 65535 config.times.server h.timed.server) (within-true 1 10 config.times.reauth_max h.timed.reauth_max))
    (within-true 1 4294967295 config.times.reauth_period h.timed.reauth_period)))
    (three (within-true 1 86400 config.window h.clocked.window_day) (within-true 1 65535 config.guest_wait h.clocked.wait) (up_to config.clock 4294967295 h.clocked.clock_fits.high))
  where
    three : {a b c : Bool} → a ≡ true → b ≡ true → c ≡ true → (a && b && c) ≡ true
    three {a} {b} {c} ha hb hc = and_from (a && b) c (and_from a b ha hb) hc

    up_to : (n most : ℕ) → n ≤ most → leb n most ≡ true
    up_to n most h = grind (arith, nat_tests)
