-- What is known of a line that stands before `begin`.
use Rattle.std.proofs.Common.{◌≡◌, ◌≢◌, ℕ, ◌<◌, ◌||◌, true, false, not, leb, List, [], ◌∷◌, ◌++◌, length, Option, Some, None, Ok, sym, ◌∙◌, subst, arith, length-append}
use Rattle.std.proofs.lemmas.Bool.{or_parts, not-false}
use Rattle.std.proofs.lemmas.Bool.Decides.{nat_tests}
use Rattle.machine_vars.specs.declared.control.Times.{Times}
use Rattle.wire_defs.specs.Number.{number_in}
use Rattle.switch_event.specs.declared.config.PortConf.{PortConf}
use Rattle.switch_event.specs.Config.{Config, Client, has_port, has_client}
use Rattle.trace_defs.specs.declared.keyword.Keyword.{Keyword}
use Rattle.trace_defs.specs.declared.keyword.Keyword.TheVariants.{Setting as IsSetting, Record as IsEntry, Sync as IsSync}
use Rattle.trace_defs.specs.declared.keyword.SettingWord.{SettingWord}
use Rattle.trace_defs.specs.declared.keyword.SettingWord.TheVariants as setting
use Rattle.trace_defs.specs.declared.keyword.OtherVlan.{OtherVlan}
use Rattle.trace_defs.specs.declared.keyword.OtherVlan.TheVariants.{Restricted, Guest}
use Rattle.trace_defs.specs.declared.keyword.Timing.{Timing}
use Rattle.trace_defs.specs.declared.keyword.Timing.TheVariants.{QuietPeriod, ServerTimeout, ReauthMax, ReauthPeriod, Reauth, GuestWait, DynWindow, RequireMa}
use Rattle.trace_defs.specs.declared.given.TheConstants.{BRIDGE, NAS, SERVER, QUIET_PERIOD, SERVER_TIMEOUT, REAUTH_MAX, REAUTH_PERIOD, REAUTH, DYN_WINDOW, CLOCK, SEED, GUEST_WAIT, REQUIRE_MA}
use Rattle.trace_defs.specs.declared.reason.TheConstants.{WORD, COUNT, NUMBER, HEX, NAME, PORT, TWICE, MISSING}
use Rattle.trace_defs.specs.Word.{timing_of, one_of, two_of, three_of, address_of, hex_in, name_of, control_of, switch_of}
use Rattle.trace_defs.specs.Refusal.{unless}
use Rattle.trace_defs.specs.Line.{was_given, with_given, once, bridge_line, nas_line, server_line, client_line, port_line, has_other_vlan, give_vlan, vlan_line, with_times, timing_line, set_line, clock_line, seed_line, begin_line, setting_line, is_misplaced, keyword_line, line_of}
use Rattle.trace_defs.specs.Line.Line.{Begin, Setting}
use Rattle.trace_defs.proofs.NumberText.{address_of-some}
use Rattle.trace_defs.proofs.OctetText.{hex_in-some, name_of-some}
use Rattle.trace_defs.proofs.LineFacts.{Gives, Gives-some, Gives-unless, Gives-alone, ArePlain, IsLane, line_of-gives}
use Rattle.trace_defs.specs.Sized.{IsPlain}
use Rattle.trace_defs.proofs.PortFacts.{IsConf, valid_ports-more, give-valid_ports}
use Rattle.trace_defs.proofs.SettingFacts.{was_given-other, AreNew-more, in_range, IsBefore}
use Rattle.trace_defs.specs.Settings.{AreClients, IsNas, IsServer, IsTimed, IsClocked, IsRead}

module _ (config : Config) (given : ℕ) (h : IsRead config given) where
  -- a setting that is given once
  once_says : (k : ℕ) (new : Config) → IsRead new (with_given k given) → Gives (IsBefore given) (once k given new)
  once_says k new r = Gives-unless (IsBefore given) (was_given k given) TWICE [] (Ok (Setting new (with_given k given))) (λ e. r)

  -- the server, after a setting that is none
  kept_server : (k : ℕ) → 2 ≢ k → was_given SERVER (with_given k given) ≡ true → IsServer config.server config.secret
  kept_server k other e = h.server (sym (was_given-other k SERVER given other) ∙ e)

  bridge_says : (args : List (List ℕ)) → Gives (IsBefore given) (bridge_line config given args)
  bridge_says args =
      Gives-some (IsBefore given) (one_of args) COUNT _ (λ word is.
      Gives-some (IsBefore given) (hex_in 6 6 word) HEX _ (λ bridge written.
      once_says BRIDGE (record config { bridge = bridge })
      (record { bridge = hex_in-some 6 6 word bridge written; nas = h.nas; server = kept_server BRIDGE (λ e. absurd (omega arith)); clients = h.clients; ports = h.ports; timed = h.timed; clocked = h.clocked; seed = h.seed })))

  nas_says : (args : List (List ℕ)) → ArePlain args → Gives (IsBefore given) (nas_line config given args)
  nas_says args plain =
      Gives-some (IsBefore given) (two_of args) COUNT _ (λ word is.
      Gives-some (IsBefore given) (address_of word.0) NUMBER _ (λ ip at.
      Gives-some (IsBefore given) (name_of word.1) NAME _ (λ name named.
      let nas : IsNas (record { ip = ip; name = name }) = record {
        ip = address_of-some word.0 ip at;
        name = subst IsPlain (name_of-some word.1 name named).0 (second args word plain is);
        short = (name_of-some word.1 name named).1;
      } in
      once_says NAS (record config { nas = record { ip = ip; name = name } })
      (record { bridge = h.bridge; nas = nas; server = kept_server NAS (λ e. absurd (omega arith)); clients = h.clients; ports = h.ports; timed = h.timed; clocked = h.clocked; seed = h.seed }))))
    where
      second : (args : List (List ℕ)) (two : List ℕ × List ℕ) → ArePlain args → two_of args ≡ Some two → IsPlain two.1
      second [] two hs e = absurd (cc)
      second (a ∷ []) two hs e = absurd (cc)
      second (a ∷ b ∷ []) two hs e = subst (λ pair. IsPlain pair.1) (same (a, b) e) hs.1.0
        where
          same : (pair : List ℕ × List ℕ) → Some pair ≡ Some two → pair ≡ two
          same pair e = cc
      second (a ∷ b ∷ c ∷ rest) two hs e = absurd (cc)

  server_says : (args : List (List ℕ)) → Gives (IsBefore given) (server_line config given args)
  server_says args =
      Gives-some (IsBefore given) (three_of args) COUNT _ (λ word is.
      Gives-some (IsBefore given) (address_of word.0) NUMBER _ (λ ip at.
      Gives-some (IsBefore given) (number_in 1 65535 word.1) NUMBER _ (λ port numbered.
      Gives-some (IsBefore given) (hex_in 1 64 word.2) HEX _ (λ secret written.
      let server : IsServer (record { ip = ip; port = port }) secret =
      record { ip = address_of-some word.0 ip at; port = in_range 1 65535 word.1 port numbered; shared = hex_in-some 1 64 word.2 secret written } in
      once_says SERVER (record config { server = record { ip = ip; port = port }; secret = secret })
      (record { bridge = h.bridge; nas = h.nas; server = λ e. server; clients = h.clients; ports = h.ports; timed = h.timed; clocked = h.clocked; seed = h.seed })))))

  client_says : (args : List (List ℕ)) → Gives (IsBefore given) (client_line config given args)
  client_says args =
      Gives-some (IsBefore given) (two_of args) COUNT _ (λ word is.
      Gives-some (IsBefore given) (address_of word.0) NUMBER _ (λ ip at.
      Gives-some (IsBefore given) (hex_in 1 64 word.1) HEX _ (λ secret written.
      let client : Client = record { ip = ip; secret = secret } in
      let full = leb 4 (length config.clients) in
      Gives-unless (IsBefore given) (has_client ip config || full) TWICE [] (Ok (Setting (record config { clients = config.clients ++ client ∷ [] }) given)) (λ e.
      let free = or_parts (has_client ip config) full e in
      let clients : AreClients (config.clients ++ client ∷ []) = record {
        new = AreNew-more [] config.clients client h.clients.new (record { ip = address_of-some word.0 ip at; secret = hex_in-some 1 64 word.1 secret written }) free.0;
        few = omega (arith, length-append config.clients (client ∷ []), fewer (length config.clients) free.1);
      } in
      record { bridge = h.bridge; nas = h.nas; server = h.server; clients = clients; ports = h.ports; timed = h.timed; clocked = h.clocked; seed = h.seed }))))
    where
      fewer : (n : ℕ) → leb 4 n ≡ false → n < 4
      fewer n e = grind (arith, nat_tests)

  port_says : (args : List (List ℕ)) → Gives (IsBefore given) (port_line config given args)
  port_says args =
      Gives-some (IsBefore given) (three_of args) COUNT _ (λ word is.
      Gives-some (IsBefore given) (number_in 1 60 word.0) NUMBER _ (λ port numbered.
      Gives-some (IsBefore given) (number_in 1 4094 word.1) NUMBER _ (λ native tagged.
      Gives-some (IsBefore given) (control_of word.2) NAME _ (λ control choice.
      let conf : PortConf = record { port = port; native = native; control = control; restricted = 0; guest = 0 } in
      Gives-unless (IsBefore given) (has_port port config) TWICE [] (Ok (Setting (record config { ports = config.ports ++ conf ∷ [] }) given)) (λ free.
      let good : IsConf conf =
      record { port = in_range 1 60 word.0 port numbered; native = in_range 1 4094 word.1 native tagged; restricted = omega arith; guest = omega arith } in
      record { bridge = h.bridge; nas = h.nas; server = h.server; clients = h.clients; ports = valid_ports-more config.ports conf h.ports good free; timed = h.timed; clocked = h.clocked; seed = h.seed })))))

  vlan_says : (other : OtherVlan) (args : List (List ℕ)) → Gives (IsBefore given) (vlan_line other config given args)
  vlan_says other args =
      Gives-some (IsBefore given) (two_of args) COUNT _ (λ word is.
      Gives-some (IsBefore given) (number_in 1 60 word.0) NUMBER _ (λ port numbered.
      Gives-some (IsBefore given) (number_in 1 4094 word.1) NUMBER _ (λ vlan tagged.
      let read = Ok (Setting (record config { ports = give_vlan other port vlan config.ports }) given) in
      Gives-unless (IsBefore given) (not (has_port port config)) PORT ((has_other_vlan other port config.ports, TWICE) ∷ []) read (λ known.
      Gives-unless (IsBefore given) (has_other_vlan other port config.ports) TWICE [] read (λ free.
      record { bridge = h.bridge; nas = h.nas; server = h.server; clients = h.clients; ports = give-valid_ports other port vlan config.ports (in_range 1 4094 word.1 vlan tagged).high h.ports; timed = h.timed; clocked = h.clocked; seed = h.seed })))))

  -- one of the times
  timed_says : (k : ℕ) (times : Times) → 2 ≢ k → IsTimed times → Gives (IsBefore given) (once k given (with_times config times))
  timed_says k times other t =
      once_says k (with_times config times)
      (record { bridge = h.bridge; nas = h.nas; server = kept_server k other; clients = h.clients; ports = h.ports; timed = t; clocked = h.clocked; seed = h.seed })

  -- the waiting of guests, the window or the clock
  clocked_says : (k wait window clock : ℕ) → 2 ≢ k → IsClocked wait window clock → Gives (IsBefore given) (once k given (record config { guest_wait = wait; window = window; clock = clock }))
  clocked_says k wait window clock other t =
      once_says k (record config { guest_wait = wait; window = window; clock = clock })
      (record { bridge = h.bridge; nas = h.nas; server = kept_server k other; clients = h.clients; ports = h.ports; timed = h.timed; clocked = t; seed = h.seed })

  timing_says : (timing : Timing) (word : List ℕ) → Gives (IsBefore given) (timing_line config given timing word)
  timing_says QuietPeriod word =
      Gives-some (IsBefore given) (number_in 1 65535 word) NUMBER _ (λ n is.
      timed_says QUIET_PERIOD (record config.times { quiet = n }) (λ e. absurd (omega arith))
      (record { quiet = in_range 1 65535 word n is; server = h.timed.server; reauth_max = h.timed.reauth_max; reauth_period = h.timed.reauth_period }))
  timing_says ServerTimeout word =
      Gives-some (IsBefore given) (number_in 1 65535 word) NUMBER _ (λ n is.
      timed_says SERVER_TIMEOUT (record config.times { server = n }) (λ e. absurd (omega arith))
      (record { quiet = h.timed.quiet; server = in_range 1 65535 word n is; reauth_max = h.timed.reauth_max; reauth_period = h.timed.reauth_period }))
  timing_says ReauthMax word =
      Gives-some (IsBefore given) (number_in 1 10 word) NUMBER _ (λ n is.
      timed_says REAUTH_MAX (record config.times { reauth_max = n }) (λ e. absurd (omega arith))
      (record { quiet = h.timed.quiet; server = h.timed.server; reauth_max = in_range 1 10 word n is; reauth_period = h.timed.reauth_period }))
  timing_says ReauthPeriod word =
      Gives-some (IsBefore given) (number_in 1 4294967295 word) NUMBER _ (λ n is.
      timed_says REAUTH_PERIOD (record config.times { reauth_period = n }) (λ e. absurd (omega arith))
      (record { quiet = h.timed.quiet; server = h.timed.server; reauth_max = h.timed.reauth_max; reauth_period = in_range 1 4294967295 word n is }))
  timing_says Reauth word =
      Gives-some (IsBefore given) (switch_of word) NAME _ (λ on is.
      timed_says REAUTH (record config.times { reauth = on }) (λ e. absurd (omega arith))
      (record { quiet = h.timed.quiet; server = h.timed.server; reauth_max = h.timed.reauth_max; reauth_period = h.timed.reauth_period }))
  timing_says GuestWait word =
      Gives-some (IsBefore given) (number_in 1 65535 word) NUMBER _ (λ n is.
      clocked_says GUEST_WAIT n config.window config.clock (λ e. absurd (omega arith))
      (record { wait = in_range 1 65535 word n is; window_day = h.clocked.window_day; clock_fits = h.clocked.clock_fits }))
  timing_says DynWindow word =
      Gives-some (IsBefore given) (number_in 1 86400 word) NUMBER _ (λ n is.
      clocked_says DYN_WINDOW config.guest_wait n config.clock (λ e. absurd (omega arith))
      (record { wait = h.clocked.wait; window_day = in_range 1 86400 word n is; clock_fits = h.clocked.clock_fits }))
  timing_says RequireMa word =
      Gives-some (IsBefore given) (switch_of word) NAME _ (λ on is.
      once_says REQUIRE_MA (record config { require_ma = on })
      (record { bridge = h.bridge; nas = h.nas; server = kept_server REQUIRE_MA (λ e. absurd (omega arith)); clients = h.clients; ports = h.ports; timed = h.timed; clocked = h.clocked; seed = h.seed }))

  set_says : (args : List (List ℕ)) → Gives (IsBefore given) (set_line config given args)
  set_says args =
      Gives-some (IsBefore given) (two_of args) COUNT _ (λ word is.
      Gives-some (IsBefore given) (timing_of word.0) WORD _ (λ timing known. timing_says timing word.1))

  clock_says : (args : List (List ℕ)) → Gives (IsBefore given) (clock_line config given args)
  clock_says args =
      Gives-some (IsBefore given) (one_of args) COUNT _ (λ word is.
      Gives-some (IsBefore given) (number_in 0 4294967295 word) NUMBER _ (λ n numbered.
      clocked_says CLOCK config.guest_wait config.window n (λ e. absurd (omega arith))
      (record { wait = h.clocked.wait; window_day = h.clocked.window_day; clock_fits = in_range 0 4294967295 word n numbered })))

  seed_says : (args : List (List ℕ)) → Gives (IsBefore given) (seed_line config given args)
  seed_says args =
      Gives-some (IsBefore given) (one_of args) COUNT _ (λ word is.
      Gives-some (IsBefore given) (hex_in 32 32 word) HEX _ (λ seed written.
      once_says SEED (record config { seed = seed })
      (record { bridge = h.bridge; nas = h.nas; server = kept_server SEED (λ e. absurd (omega arith)); clients = h.clients; ports = h.ports; timed = h.timed; clocked = h.clocked; seed = hex_in-some 32 32 word seed written })))

  begin_says : (args : List (List ℕ)) → Gives (IsBefore given) (begin_line given args)
  begin_says args =
      Gives-alone (IsBefore given) (unless ((not (was_given SERVER given), MISSING) ∷ []) (Ok Begin)) args
      (Gives-unless (IsBefore given) (not (was_given SERVER given)) MISSING [] (Ok Begin) (λ e. not-false (was_given SERVER given) e))

  setting_says : (word : SettingWord) (args : List (List ℕ)) → ArePlain args → Gives (IsBefore given) (setting_line config given word args)
  setting_says setting.Bridge args hs = bridge_says args
  setting_says setting.Nas args hs = nas_says args hs
  setting_says setting.Server args hs = server_says args
  setting_says setting.Client args hs = client_says args
  setting_says setting.Port args hs = port_says args
  setting_says setting.Restricted args hs = vlan_says Restricted args
  setting_says setting.Guest args hs = vlan_says Guest args
  setting_says setting.Set args hs = set_says args
  setting_says setting.Clock args hs = clock_says args
  setting_says setting.Seed args hs = seed_says args
  setting_says setting.Begin args hs = begin_says args

  -- a line before `begin` is blank, `begin` behind a server, or gives settings that lines can write
  pub line_of-before : (line : List ℕ) → Gives (IsBefore given) (line_of config given false line)
  line_of-before line = line_of-gives (IsBefore given) config given false line tt placed
    where
      placed : (lane : Option ℕ) (keyword : Option Keyword) (args : List (List ℕ)) → IsLane lane → ArePlain args → is_misplaced false keyword ≡ false
          → Gives (IsBefore given) (keyword_line config given lane keyword args)
      placed lane (Some (IsSetting word)) args l hs e = setting_says word args hs
      placed lane (Some (IsEntry word)) args l hs e = absurd (cc)
      placed lane (Some IsSync) args l hs e = absurd (cc)
      placed lane None args l hs e = tt
