-- Printed settings read back as what they were.
use Rattle.std.proofs.Common.{◌≡◌, ℕ, suc, ◌+◌, ◌<◌, ◌≤◌, Bool, ◌||◌, true, false, not, leb, List, [], ◌∷◌, ◌++◌, map, length, codes, Some, Result, Ok, refl, sym, ap, ap₂, ◌∙◌, arith, append-nil, append_assoc, length-append}
use Rattle.std.specs.Fmt.{decimal}
use Rattle.std.proofs.lemmas.Bool.{or_from}
use Rattle.std.proofs.lemmas.List.{map-append}
use Rattle.std.proofs.lemmas.Bool.Decides.{nat_tests}
use Rattle.hex.specs.Hex.{encode_lower}
use Rattle.machine_vars.specs.declared.control.Control.{Control as PortControl}
use Rattle.wire_core.specs.declared.address.Addr.{Addr}
use Rattle.wire_defs.specs.Number.{number_in}
use Rattle.switch_event.specs.declared.config.PortConf.{PortConf}
use Rattle.switch_event.specs.Config.{Config, Client, Nas, empty, has_port, has_client, is_among, are_valid_ports}
use Rattle.trace_defs.specs.declared.keyword.Timing.{Timing}
use Rattle.trace_defs.specs.declared.keyword.Timing.TheVariants.{QuietPeriod, ServerTimeout, ReauthMax, ReauthPeriod, Reauth, GuestWait, DynWindow, RequireMa}
use Rattle.trace_defs.specs.declared.given.TheConstants.{BRIDGE, NAS, SERVER, QUIET_PERIOD, SERVER_TIMEOUT, REAUTH_MAX, REAUTH_PERIOD, REAUTH, DYN_WINDOW, CLOCK, SEED, GUEST_WAIT, REQUIRE_MA}
use Rattle.trace_defs.specs.declared.reason.TheConstants.{NUMBER, HEX, NAME, TWICE, MISSING}
use Rattle.trace_defs.specs.Refusal.{◌>>=◌, or_refused, unless}
use Rattle.trace_defs.specs.Word.{address_of, hex_in, name_of, control_of, switch_of}
use Rattle.trace_defs.specs.Line.{Line, was_given, with_given, all_given, once, with_times, timing_line, head_of, line_of}
use Rattle.trace_defs.specs.Line.Line.{Begin, Setting}
use Rattle.trace_defs.specs.Text.{spaced, dotted, control_text, switch_text, client_words, port_words, set_words, first_lines, time_lines, last_lines}
use Rattle.trace_defs.specs.Trace.{Progress, start, add_line, go_on, read_lines}
use Rattle.trace_defs.proofs.Headed.{with-some, unless-next, spoken_line}
use Rattle.trace_defs.proofs.PlainWords.{IsWord, word_by_test, line_of-words}
use Rattle.trace_defs.proofs.NumberText.{number_back, address_back}
use Rattle.trace_defs.proofs.OctetText.{hex_back, name_back, control_back, switch_back}
use Rattle.trace_defs.specs.Sized.{IsSized}
use Rattle.trace_defs.proofs.PortFacts.{IsConf, among-map, valid_ports-at}
use Rattle.trace_defs.specs.Sized.{IsWithin}
use Rattle.trace_defs.specs.Settings.{IsClient, AreNew, IsNas, IsServer, IsTimed, IsClocked}
use Rattle.trace_defs.proofs.SettingWords.{as_number, bridge_words, nas_words, server_words, client_are_words, port_are_words, set_are_words, switch_value, clock_words, seed_words}

once_new : (k : ℕ) (config : Config) (given : ℕ) (new : Config) → was_given k given ≡ false → once k given new ≡ Ok (Setting new (with_given k given))
once_new k config given new fresh = unless-next (was_given k given) TWICE [] (Ok (Setting new (with_given k given))) fresh

pub in_number : (least most n : ℕ) → IsWithin least most n → most ≤ 4294967295 → number_in least most (decimal n) ≡ Some n
in_number least most n h fits = number_back least most n h.low h.high (omega (arith, h.high))

-- a port without the VLANs that lines of their own have
abbrev pub bare : PortConf → PortConf
bare p = record p { restricted = 0; guest = 0 }

-- ---- each line

module _ (config : Config) (given : ℕ) where
  bridge_back : (bridge : List ℕ) → IsSized 6 6 bridge → was_given BRIDGE given ≡ false
      → line_of config given false (spaced (codes "bridge" ∷ encode_lower bridge ∷ [])) ≡ Ok (Setting (record config { bridge = bridge }) (with_given BRIDGE given))
  bridge_back bridge h fresh =
      let some : 1 ≤ length bridge = omega (arith, h.low) in
      line_of-words config given false 12 (12 ∷ []) (codes "bridge") (encode_lower bridge ∷ []) (bridge_words bridge h) refl refl
      ∙ with-some (hex_in 6 6 (encode_lower bridge)) bridge HEX (λ bridge. once BRIDGE given (record config { bridge = bridge })) (hex_back 6 6 bridge h some)
      ∙ once_new BRIDGE config given (record config { bridge = bridge }) fresh

  nas_back : (nas : Nas) → IsNas nas → was_given NAS given ≡ false
      → line_of config given false (spaced (codes "nas" ∷ dotted nas.ip ∷ nas.name ∷ [])) ≡ Ok (Setting (record config { nas = nas }) (with_given NAS given))
  nas_back nas h fresh =
      line_of-words config given false 12 (83 ∷ 32 ∷ []) (codes "nas") (dotted nas.ip ∷ nas.name ∷ []) (nas_words nas h) refl refl
      ∙ with-some (address_of (dotted nas.ip)) nas.ip NUMBER (λ ip. or_refused (name_of nas.name) NAME >>= λ name. once NAS given (record config { nas = record { ip = ip; name = name } })) (address_back nas.ip h.ip)
      ∙ with-some (name_of nas.name) nas.name NAME (λ name. once NAS given (record config { nas = record { ip = nas.ip; name = name } })) (name_back nas.name h.short)
      ∙ once_new NAS config given (record config { nas = nas }) fresh

  server_back : (server : Addr) (secret : List ℕ) → IsServer server secret → was_given SERVER given ≡ false
      → line_of config given false (spaced (codes "server" ∷ dotted server.ip ∷ decimal server.port ∷ encode_lower secret ∷ []))
      ≡ Ok (Setting (record config { server = server; secret = secret }) (with_given SERVER given))
  server_back server secret h fresh =
      let some : 1 ≤ length secret = omega (arith, h.shared.low) in
      let put : List ℕ → ℕ → List ℕ → Config = λ ip port secret. record config { server = record { ip = ip; port = port }; secret = secret } in
      line_of-words config given false 12 (83 ∷ 20 ∷ 128 ∷ []) (codes "server") (dotted server.ip ∷ decimal server.port ∷ encode_lower secret ∷ [])
      (server_words server secret h) refl refl
      ∙ with-some (address_of (dotted server.ip)) server.ip NUMBER (λ ip. or_refused (number_in 1 65535 (decimal server.port)) NUMBER >>= λ port. or_refused (hex_in 1 64 (encode_lower secret)) HEX >>= λ secret. once SERVER given (put ip port secret)) (address_back server.ip h.ip)
      ∙ with-some (number_in 1 65535 (decimal server.port)) server.port NUMBER (λ port. or_refused (hex_in 1 64 (encode_lower secret)) HEX >>= λ secret. once SERVER given (put server.ip port secret)) (in_number 1 65535 server.port h.port (omega arith))
      ∙ with-some (hex_in 1 64 (encode_lower secret)) secret HEX (λ secret. once SERVER given (put server.ip server.port secret)) (hex_back 1 64 secret h.shared some)
      ∙ once_new SERVER config given (record config { server = server; secret = secret }) fresh

  client_back : (client : Client) → IsClient client → has_client client.ip config ≡ false → length config.clients < 4
      → line_of config given false (spaced (client_words client)) ≡ Ok (Setting (record config { clients = config.clients ++ client ∷ [] }) given)
  client_back client h free few =
      let some : 1 ≤ length client.secret = omega (arith, h.secret.low) in
      let read : List ℕ → List ℕ → Result Line ℕ = λ ip secret.
      unless ((has_client ip config || leb 4 (length config.clients), TWICE) ∷ []) (Ok (Setting (record config { clients = config.clients ++ record { ip = ip; secret = secret } ∷ [] }) given)) in
      line_of-words config given false 12 (83 ∷ 128 ∷ []) (codes "client") (dotted client.ip ∷ encode_lower client.secret ∷ [])
      (client_are_words client h) refl refl
      ∙ with-some (address_of (dotted client.ip)) client.ip NUMBER (λ ip. or_refused (hex_in 1 64 (encode_lower client.secret)) HEX >>= read ip) (address_back client.ip h.ip)
      ∙ with-some (hex_in 1 64 (encode_lower client.secret)) client.secret HEX (read client.ip) (hex_back 1 64 client.secret h.secret some)
      ∙ unless-next (has_client client.ip config || leb 4 (length config.clients)) TWICE [] (Ok (Setting (record config { clients = config.clients ++ client ∷ [] }) given))
      (or_from (has_client client.ip config) (leb 4 (length config.clients)) free (below (length config.clients) few))
    where
      below : (n : ℕ) → n < 4 → leb 4 n ≡ false
      below n h = grind (arith, nat_tests)

  -- a port, without the VLANs that lines of their own have
  port_back : (conf : PortConf) → IsConf conf → has_port conf.port config ≡ false
      → line_of config given false (spaced (port_words conf)) ≡ Ok (Setting (record config { ports = config.ports ++ bare conf ∷ [] }) given)
  port_back conf h free =
      let put : ℕ → ℕ → PortControl → Result Line ℕ = λ port native control.
      unless ((has_port port config, TWICE) ∷ []) (Ok (Setting (record config { ports = config.ports ++ record { port = port; native = native; control = control; restricted = 0; guest = 0 } ∷ [] }) given)) in
      line_of-words config given false 12 (20 ∷ 20 ∷ 12 ∷ []) (codes "port") (decimal conf.port ∷ decimal conf.native ∷ control_text conf.control ∷ [])
      (port_are_words conf h) refl refl
      ∙ with-some (number_in 1 60 (decimal conf.port)) conf.port NUMBER (λ port. or_refused (number_in 1 4094 (decimal conf.native)) NUMBER >>= λ native. or_refused (control_of (control_text conf.control)) NAME >>= put port native) (in_number 1 60 conf.port h.port (omega arith))
      ∙ with-some (number_in 1 4094 (decimal conf.native)) conf.native NUMBER (λ native. or_refused (control_of (control_text conf.control)) NAME >>= put conf.port native) (in_number 1 4094 conf.native h.native (omega arith))
      ∙ with-some (control_of (control_text conf.control)) conf.control NAME (put conf.port conf.native) (control_back conf.control)
      ∙ unless-next (has_port conf.port config) TWICE [] (Ok (Setting (record config { ports = config.ports ++ bare conf ∷ [] }) given)) free

  -- `set`, with the word for what is set
  set_back : (name value : List ℕ) (timing : Timing) (line : Line) → IsWord 20 name → IsWord 20 value
      → spoken_line config given false (head_of (codes "set") (name ∷ value ∷ [])) ≡ timing_line config given timing value → timing_line config given timing value ≡ Ok line
      → line_of config given false (spaced (set_words name value)) ≡ Ok line
  set_back name value timing line named valued of is =
      line_of-words config given false 12 (20 ∷ 20 ∷ []) (codes "set") (name ∷ value ∷ []) (set_are_words name value named valued) refl refl ∙ of ∙ is

  number_set : (name : List ℕ) (timing : Timing) (k least most n : ℕ) (new : ℕ → Config) → IsWord 20 name → IsWithin least most n → most ≤ 4294967295
      → ((value : List ℕ) → spoken_line config given false (head_of (codes "set") (name ∷ value ∷ [])) ≡ timing_line config given timing value)
      → ((value : List ℕ) → timing_line config given timing value ≡ (or_refused (number_in least most value) NUMBER >>= λ n. once k given (new n)))
      → was_given k given ≡ false → line_of config given false (spaced (set_words name (decimal n))) ≡ Ok (Setting (new n) (with_given k given))
  number_set name timing k least most n new named h fits of is fresh =
      set_back name (decimal n) timing (Setting (new n) (with_given k given)) named (as_number least most n h fits) (of (decimal n)) (
      is (decimal n) ∙ with-some (number_in least most (decimal n)) n NUMBER (λ n. once k given (new n)) (in_number least most n h fits) ∙ once_new k config given (new n) fresh
      )

  switch_set : (name : List ℕ) (timing : Timing) (k : ℕ) (on : Bool) (new : Bool → Config) → IsWord 20 name
      → ((value : List ℕ) → spoken_line config given false (head_of (codes "set") (name ∷ value ∷ [])) ≡ timing_line config given timing value)
      → ((value : List ℕ) → timing_line config given timing value ≡ (or_refused (switch_of value) NAME >>= λ on. once k given (new on)))
      → was_given k given ≡ false → line_of config given false (spaced (set_words name (switch_text on))) ≡ Ok (Setting (new on) (with_given k given))
  switch_set name timing k on new named of is fresh =
      set_back name (switch_text on) timing (Setting (new on) (with_given k given)) named (switch_value on) (of (switch_text on)) (
      is (switch_text on) ∙ with-some (switch_of (switch_text on)) on NAME (λ on. once k given (new on)) (switch_back on) ∙ once_new k config given (new on) fresh
      )

  quiet_back : (n : ℕ) → IsWithin 1 65535 n → was_given QUIET_PERIOD given ≡ false
      → line_of config given false (spaced (set_words (codes "quiet-period") (decimal n))) ≡ Ok (Setting (with_times config (record config.times { quiet = n })) (with_given QUIET_PERIOD given))
  quiet_back n h fresh =
      number_set (codes "quiet-period") QuietPeriod QUIET_PERIOD 1 65535 n (λ n. with_times config (record config.times { quiet = n })) (word_by_test 20 (codes "quiet-period") refl) h (omega arith)
      (λ value. refl) (λ value. refl) fresh

  server_timeout_back : (n : ℕ) → IsWithin 1 65535 n → was_given SERVER_TIMEOUT given ≡ false
      → line_of config given false (spaced (set_words (codes "server-timeout") (decimal n))) ≡ Ok (Setting (with_times config (record config.times { server = n })) (with_given SERVER_TIMEOUT given))
  server_timeout_back n h fresh =
      number_set (codes "server-timeout") ServerTimeout SERVER_TIMEOUT 1 65535 n (λ n. with_times config (record config.times { server = n })) (word_by_test 20 (codes "server-timeout") refl) h (omega arith)
      (λ value. refl) (λ value. refl) fresh

  reauth_max_back : (n : ℕ) → IsWithin 1 10 n → was_given REAUTH_MAX given ≡ false
      → line_of config given false (spaced (set_words (codes "reauth-max") (decimal n))) ≡ Ok (Setting (with_times config (record config.times { reauth_max = n })) (with_given REAUTH_MAX given))
  reauth_max_back n h fresh =
      number_set (codes "reauth-max") ReauthMax REAUTH_MAX 1 10 n (λ n. with_times config (record config.times { reauth_max = n })) (word_by_test 20 (codes "reauth-max") refl) h (omega arith)
      (λ value. refl) (λ value. refl) fresh

  reauth_period_back : (n : ℕ) → IsWithin 1 4294967295 n → was_given REAUTH_PERIOD given ≡ false
      → line_of config given false (spaced (set_words (codes "reauth-period") (decimal n))) ≡ Ok (Setting (with_times config (record config.times { reauth_period = n })) (with_given REAUTH_PERIOD given))
  reauth_period_back n h fresh =
      number_set (codes "reauth-period") ReauthPeriod REAUTH_PERIOD 1 4294967295 n (λ n. with_times config (record config.times { reauth_period = n })) (word_by_test 20 (codes "reauth-period") refl) h (omega arith)
      (λ value. refl) (λ value. refl) fresh

  reauth_back : (on : Bool) → was_given REAUTH given ≡ false
      → line_of config given false (spaced (set_words (codes "reauth") (switch_text on))) ≡ Ok (Setting (with_times config (record config.times { reauth = on })) (with_given REAUTH given))
  reauth_back on fresh = switch_set (codes "reauth") Reauth REAUTH on (λ on. with_times config (record config.times { reauth = on })) (word_by_test 20 (codes "reauth") refl) (λ value. refl) (λ value. refl) fresh

  guest_wait_back : (n : ℕ) → IsWithin 1 65535 n → was_given GUEST_WAIT given ≡ false
      → line_of config given false (spaced (set_words (codes "guest-wait") (decimal n))) ≡ Ok (Setting (record config { guest_wait = n }) (with_given GUEST_WAIT given))
  guest_wait_back n h fresh =
      number_set (codes "guest-wait") GuestWait GUEST_WAIT 1 65535 n (λ n. record config { guest_wait = n }) (word_by_test 20 (codes "guest-wait") refl) h (omega arith)
      (λ value. refl) (λ value. refl) fresh

  window_back : (n : ℕ) → IsWithin 1 86400 n → was_given DYN_WINDOW given ≡ false
      → line_of config given false (spaced (set_words (codes "dyn-window") (decimal n))) ≡ Ok (Setting (record config { window = n }) (with_given DYN_WINDOW given))
  window_back n h fresh =
      number_set (codes "dyn-window") DynWindow DYN_WINDOW 1 86400 n (λ n. record config { window = n }) (word_by_test 20 (codes "dyn-window") refl) h (omega arith)
      (λ value. refl) (λ value. refl) fresh

  require_back : (on : Bool) → was_given REQUIRE_MA given ≡ false
      → line_of config given false (spaced (set_words (codes "require-ma") (switch_text on))) ≡ Ok (Setting (record config { require_ma = on }) (with_given REQUIRE_MA given))
  require_back on fresh = switch_set (codes "require-ma") RequireMa REQUIRE_MA on (λ on. record config { require_ma = on }) (word_by_test 20 (codes "require-ma") refl) (λ value. refl) (λ value. refl) fresh

  clock_back : (n : ℕ) → IsWithin 0 4294967295 n → was_given CLOCK given ≡ false
      → line_of config given false (spaced (codes "clock" ∷ decimal n ∷ [])) ≡ Ok (Setting (record config { clock = n }) (with_given CLOCK given))
  clock_back n h fresh =
      line_of-words config given false 12 (20 ∷ []) (codes "clock") (decimal n ∷ []) (clock_words n h) refl refl
      ∙ with-some (number_in 0 4294967295 (decimal n)) n NUMBER (λ n. once CLOCK given (record config { clock = n })) (in_number 0 4294967295 n h (omega arith))
      ∙ once_new CLOCK config given (record config { clock = n }) fresh

  seed_back : (seed : List ℕ) → IsSized 32 32 seed → was_given SEED given ≡ false
      → line_of config given false (spaced (codes "seed" ∷ encode_lower seed ∷ [])) ≡ Ok (Setting (record config { seed = seed }) (with_given SEED given))
  seed_back seed h fresh =
      let some : 1 ≤ length seed = omega (arith, h.low) in
      line_of-words config given false 12 (64 ∷ []) (codes "seed") (encode_lower seed ∷ []) (seed_words seed h) refl refl
      ∙ with-some (hex_in 32 32 (encode_lower seed)) seed HEX (λ seed. once SEED given (record config { seed = seed })) (hex_back 32 32 seed h some)
      ∙ once_new SEED config given (record config { seed = seed }) fresh

  begin_back : was_given SERVER given ≡ true → line_of config given false (spaced (codes "begin" ∷ [])) ≡ Ok Begin
  begin_back has =
      line_of-words config given false 12 [] (codes "begin") [] (word_by_test 12 (codes "begin") refl, tt) refl refl
      ∙ unless-next (not (was_given SERVER given)) MISSING [] (Ok Begin) (ap not has)

-- ---- one line after another

-- so many lines of settings were read
abbrev pub before : Config → ℕ → ℕ → Progress
before config given lines = record (start config) { given = given; lines = lines }

abbrev pub after : Config → ℕ → ℕ → Progress
after config given lines = record (start config) { given = given; begun = true; lines = lines }

pub step : (room : ℕ) (config : Config) (given n : ℕ) (line : List ℕ) (more : List (List ℕ)) (new : Config) (given' : ℕ) → line_of config given false line ≡ Ok (Setting new given')
    → read_lines room (before config given n) (line ∷ more) ≡ read_lines room (before new given' (n + 1)) more
step room config given n line more new given' e = ap (λ r. go_on (before config given n) (add_line room (before config given n) r) (λ q. read_lines room q more)) e

-- lines of settings, with the settings after each
record Step : Type 0 where
  line : List ℕ
  config : Config
  given : ℕ

abbrev line_text : Step → List ℕ
line_text s = s.line

-- each is read as its settings, and `begin` may follow
abbrev AreSteps : Config → ℕ → List Step → Type 0
AreSteps config given [] = was_given SERVER given ≡ true
AreSteps config given (s ∷ steps) = (line_of config given false s.line ≡ Ok (Setting s.config s.given)) × AreSteps s.config s.given steps

abbrev begun_after : Config → ℕ → ℕ → List Step → Progress
begun_after config given n [] = after config given (n + 1)
begun_after config given n (s ∷ steps) = begun_after s.config s.given (n + 1) steps

steps_back : (room : ℕ) (config : Config) (given n : ℕ) (steps : List Step) (more : List (List ℕ)) → AreSteps config given steps
    → read_lines room (before config given n) (map line_text steps ++ spaced (codes "begin" ∷ []) ∷ more) ≡ read_lines room (begun_after config given n steps) more
steps_back room config given n [] more h =
    ap (λ r. go_on (before config given n) (add_line room (before config given n) r) (λ q. read_lines room q more)) (begin_back config given h)
steps_back room config given n (s ∷ steps) more h =
    step room config given n s.line (map line_text steps ++ spaced (codes "begin" ∷ []) ∷ more) s.config s.given h.0 ∙ steps_back room s.config s.given (n + 1) steps more h.1

pub clients_back : (room : ℕ) (config : Config) (given n : ℕ) (clients : List Client) (more : List (List ℕ)) → AreNew config.clients clients → length config.clients + length clients ≤ 4
    → read_lines room (before config given n) (map spaced (map client_words clients) ++ more)
    ≡ read_lines room (before (record config { clients = config.clients ++ clients }) given (n + length clients)) more
clients_back room config given n [] more hs few =
    ap₂ (λ all n. read_lines room (before (record config { clients = all }) given n) more) (sym (append-nil config.clients)) (none n)
  where
    none : (n : ℕ) → n ≡ n + 0
    none n = omega arith
clients_back room config given n (client ∷ clients) more hs few =
    let config' : Config = record config { clients = config.clients ++ client ∷ [] } in
    step room config given n (spaced (client_words client)) (map spaced (map client_words clients) ++ more) config' given (client_back config given client hs.0 hs.1 (omega (arith, few)))
    ∙ clients_back room config' given (n + 1) clients more hs.2 (omega (arith, few, length-append config.clients (client ∷ [])))
    ∙ ap₂ (λ all n. read_lines room (before (record config { clients = all }) given n) more) (append_assoc config.clients (client ∷ []) clients) (next n (length clients))
  where
    next : (n m : ℕ) → n + 1 + m ≡ n + suc m
    next n m = omega arith

-- the ports, each without its other VLANs
pub ports_back : (room : ℕ) (config : Config) (given n : ℕ) (front ports : List PortConf) (more : List (List ℕ)) → are_valid_ports (front ++ ports) ≡ true → config.ports ≡ map bare front
    → read_lines room (before config given n) (map spaced (map port_words ports) ++ more)
    ≡ read_lines room (before (record config { ports = map bare (front ++ ports) }) given (n + length ports)) more
ports_back room config given n front [] more hs is =
    ap₂ (λ all n. read_lines room (before (record config { ports = all }) given n) more) (is ∙ ap (map bare) (sym (append-nil front))) (none n)
  where
    none : (n : ℕ) → n ≡ n + 0
    none n = omega arith
ports_back room config given n front (conf ∷ ports) more hs is =
    let at = valid_ports-at front conf ports hs in
    let config' : Config = record config { ports = config.ports ++ bare conf ∷ [] } in
    step room config given n (spaced (port_words conf)) (map spaced (map port_words ports) ++ more) config' given
    (port_back config given conf at.good (ap (is_among conf.port) is ∙ among-map bare (λ p. refl) conf.port front ∙ at.new))
    ∙ ports_back room config' given (n + 1) (front ++ conf ∷ []) ports more (ap are_valid_ports (append_assoc front (conf ∷ []) ports) ∙ hs)
    (ap (λ l. l ++ bare conf ∷ []) is ∙ sym (map-append bare front (conf ∷ [])))
    ∙ ap₂ (λ all n. read_lines room (before (record config { ports = map bare all }) given n) more) (append_assoc front (conf ∷ []) ports) (next n (length ports))
  where
    next : (n m : ℕ) → n + 1 + m ≡ n + suc m
    next n m = omega arith

pub first_back : (room : ℕ) (c : Config) (more : List (List ℕ)) → IsSized 6 6 c.bridge → IsNas c.nas → IsServer c.server c.secret
    → read_lines room (start empty) (map spaced (first_lines c) ++ more)
    ≡ read_lines room (before (record empty { bridge = c.bridge; nas = c.nas; server = c.server; secret = c.secret }) 7 3) more
first_back room c more b h s =
    let c1 : Config = record empty { bridge = c.bridge } in
    let c2 : Config = record c1 { nas = c.nas } in
    let c3 : Config = record c2 { server = c.server; secret = c.secret } in
    let l1 = spaced (codes "bridge" ∷ encode_lower c.bridge ∷ []) in
    let l2 = spaced (codes "nas" ∷ dotted c.nas.ip ∷ c.nas.name ∷ []) in
    let l3 = spaced (codes "server" ∷ dotted c.server.ip ∷ decimal c.server.port ∷ encode_lower c.secret ∷ []) in
    step room empty 0 0 l1 (l2 ∷ l3 ∷ more) c1 1 (bridge_back empty 0 c.bridge b refl)
    ∙ step room c1 1 1 l2 (l3 ∷ more) c2 3 (nas_back c1 1 c.nas h refl)
    ∙ step room c2 3 2 l3 more c3 7 (server_back c2 3 c.server c.secret s refl)

pub last_back : (room : ℕ) (config c : Config) (n : ℕ) (more : List (List ℕ)) → IsTimed c.times → IsClocked c.guest_wait c.window c.clock → IsSized 32 32 c.seed
    → read_lines room (before config 7 n) (map spaced (time_lines c.times ++ last_lines c) ++ more)
    ≡ read_lines room (after (record config { times = c.times; guest_wait = c.guest_wait; window = c.window; require_ma = c.require_ma; clock = c.clock; seed = c.seed })
    all_given (n + 1 + 1 + 1 + 1 + 1 + 1 + 1 + 1 + 1 + 1 + 1)) more
last_back room config c n more t k seed =
    let c1 : Config = with_times config (record config.times { quiet = c.times.quiet }) in
    let c2 : Config = with_times c1 (record c1.times { server = c.times.server }) in
    let c3 : Config = with_times c2 (record c2.times { reauth_max = c.times.reauth_max }) in
    let c4 : Config = with_times c3 (record c3.times { reauth_period = c.times.reauth_period }) in
    let c5 : Config = with_times c4 (record c4.times { reauth = c.times.reauth }) in
    let c6 : Config = record c5 { guest_wait = c.guest_wait } in
    let c7 : Config = record c6 { window = c.window } in
    let c8 : Config = record c7 { require_ma = c.require_ma } in
    let c9 : Config = record c8 { clock = c.clock } in
    let c10 : Config = record c9 { seed = c.seed } in
    steps_back room config 7 n (
    record { line = spaced (set_words (codes "quiet-period") (decimal c.times.quiet)); config = c1; given = 15 }
    ∷ record { line = spaced (set_words (codes "server-timeout") (decimal c.times.server)); config = c2; given = 31 }
    ∷ record { line = spaced (set_words (codes "reauth-max") (decimal c.times.reauth_max)); config = c3; given = 63 }
    ∷ record { line = spaced (set_words (codes "reauth-period") (decimal c.times.reauth_period)); config = c4; given = 127 }
    ∷ record { line = spaced (set_words (codes "reauth") (switch_text c.times.reauth)); config = c5; given = 255 }
    ∷ record { line = spaced (set_words (codes "guest-wait") (decimal c.guest_wait)); config = c6; given = 2303 }
    ∷ record { line = spaced (set_words (codes "dyn-window") (decimal c.window)); config = c7; given = 2559 }
    ∷ record { line = spaced (set_words (codes "require-ma") (switch_text c.require_ma)); config = c8; given = 6655 }
    ∷ record { line = spaced (codes "clock" ∷ decimal c.clock ∷ []); config = c9; given = 7167 }
    ∷ record { line = spaced (codes "seed" ∷ encode_lower c.seed ∷ []); config = c10; given = 8191 }
    ∷ []
    ) more (
      quiet_back config 7 c.times.quiet t.quiet refl,
      (
        server_timeout_back c1 15 c.times.server t.server refl,
        (
          reauth_max_back c2 31 c.times.reauth_max t.reauth_max refl,
          (
            reauth_period_back c3 63 c.times.reauth_period t.reauth_period refl,
            (
              reauth_back c4 127 c.times.reauth refl,
              (
                guest_wait_back c5 255 c.guest_wait k.wait refl,
                (
                  window_back c6 2303 c.window k.window_day refl,
                  (
                    require_back c7 2559 c.require_ma refl,
                    (
                      clock_back c8 6655 c.clock k.clock_fits refl,
                      (
                        seed_back c9 7167 c.seed seed refl,
                        refl,
                      ),
                    ),
                  ),
                ),
              ),
            ),
          ),
        ),
      ),
    )
