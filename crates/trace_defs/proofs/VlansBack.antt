-- Printed VLANs of ports, beside those of their hosts, read back as what they were.
use Rattle.std.proofs.Common.{◌≡◌, ℕ, ◌+◌, ◌≤◌, Bool, ◌&&◌, ◌||◌, true, false, cond, not, eqb, List, [], ◌∷◌, ◌++◌, map, length, codes, Result, Ok, refl, sym, ap, ap₂, ◌∙◌, subst, suc, arith, append-nil, append_assoc}
use Rattle.std.specs.Fmt.{decimal}
use Rattle.std.proofs.lemmas.Bool.{or_parts, or_from}
use Rattle.std.proofs.lemmas.Bool.Decides.{nat_tests}
use Rattle.std.proofs.lemmas.List.{map-append}
use Rattle.std.proofs.lemmas.List.Folds.{list_any-append}
use Rattle.wire_defs.specs.Number.{number_in}
use Rattle.switch_event.specs.declared.config.PortConf.{PortConf}
use Rattle.switch_event.specs.Config.{Config, has_port, is_among, are_valid_ports}
use Rattle.trace_defs.specs.declared.keyword.OtherVlan.{OtherVlan}
use Rattle.trace_defs.specs.declared.keyword.OtherVlan.TheVariants.{Restricted, Guest}
use Rattle.trace_defs.specs.declared.reason.TheConstants.{NUMBER, PORT, TWICE}
use Rattle.trace_defs.specs.Refusal.{◌>>=◌, or_refused, unless}
use Rattle.trace_defs.specs.Line.{Line, other_vlan, with_other_vlan, has_other_vlan, change_vlan, give_vlan, vlan_line, line_of}
use Rattle.trace_defs.specs.Line.Line.{Setting}
use Rattle.trace_defs.specs.Text.{spaced, other_vlan_word, vlan_lines}
use Rattle.trace_defs.specs.Trace.{read_lines}
use Rattle.trace_defs.proofs.Headed.{with-some, unless-next}
use Rattle.trace_defs.proofs.PlainWords.{line_of-words}
use Rattle.trace_defs.proofs.PortFacts.{IsConf, IsAmong, among-append, among-map, valid_ports-at}
use Rattle.trace_defs.specs.Sized.{IsWithin}
use Rattle.trace_defs.proofs.SettingWords.{vlan_are_words}
use Rattle.trace_defs.proofs.SettingsBack.{bare, in_number, before, step}

-- ---- ports of other numbers

untouched : (other : OtherVlan) (port vlan : ℕ) (ports : List PortConf) → is_among port ports ≡ false → give_vlan other port vlan ports ≡ ports
untouched other port vlan [] h = refl
untouched other port vlan (p ∷ ports) h =
    let parts = or_parts (eqb p.port port) (is_among port ports) h in
    ap₂ (λ q rest. q ∷ rest) (ap (λ b. cond b (with_other_vlan other vlan p) p) parts.0) (untouched other port vlan ports parts.1)

unfound : (other : OtherVlan) (port : ℕ) (ports : List PortConf) → is_among port ports ≡ false → has_other_vlan other port ports ≡ false
unfound other port [] h = refl
unfound other port (p ∷ ports) h =
    let parts = or_parts (eqb p.port port) (is_among port ports) h in
    or_from (eqb p.port port && not (eqb (other_vlan other p) 0)) (has_other_vlan other port ports) (ap (λ b. b && not (eqb (other_vlan other p) 0)) parts.0) (unfound other port ports parts.1)

same_number : (n : ℕ) → eqb n n ≡ true
same_number n = grind (arith, nat_tests)

-- ---- a line

-- a port among others gets a VLAN that it has not yet
module _ (config : Config) (given : ℕ) (other : OtherVlan) (front : List PortConf) (source : PortConf) (rest : List PortConf) (vlan : ℕ) where
  given_line : config.ports ≡ front ++ source ∷ rest → IsWithin 1 60 source.port → IsWithin 1 4094 vlan → is_among source.port front ≡ false → is_among source.port rest ≡ false
      → other_vlan other source ≡ 0
      → line_of config given false (spaced (other_vlan_word other ∷ decimal source.port ∷ decimal vlan ∷ []))
      ≡ Ok (Setting (record config { ports = front ++ with_other_vlan other vlan source ∷ rest }) given)
  given_line is number tagged new last none =
      words_read other
      ∙ with-some (number_in 1 60 (decimal source.port)) source.port NUMBER (λ port. or_refused (number_in 1 4094 (decimal vlan)) NUMBER >>= read port) (in_number 1 60 source.port number (omega arith))
      ∙ with-some (number_in 1 4094 (decimal vlan)) vlan NUMBER (read source.port) (in_number 1 4094 vlan tagged (omega arith))
      ∙ unless-next (not (has_port source.port config)) PORT ((has_other_vlan other source.port config.ports, TWICE) ∷ []) (result vlan) (ap not known)
      ∙ unless-next (has_other_vlan other source.port config.ports) TWICE [] (result vlan) free
      ∙ ap (λ ports. Ok (Setting (record config { ports = ports }) given)) changed
    where
      result : ℕ → Result Line ℕ
      result vlan = Ok (Setting (record config { ports = give_vlan other source.port vlan config.ports }) given)

      read : ℕ → ℕ → Result Line ℕ
      read port vlan =
          unless ((not (has_port port config), PORT) ∷ (has_other_vlan other port config.ports, TWICE) ∷ []) (Ok (Setting (record config { ports = give_vlan other port vlan config.ports }) given))

      words_read : (o : OtherVlan) → line_of config given false (spaced (other_vlan_word o ∷ decimal source.port ∷ decimal vlan ∷ []))
          ≡ vlan_line o config given (decimal source.port ∷ decimal vlan ∷ [])
      words_read Restricted =
          line_of-words config given false 12 (20 ∷ 20 ∷ []) (codes "restricted") (decimal source.port ∷ decimal vlan ∷ []) (vlan_are_words Restricted source.port vlan number tagged.high) refl refl
      words_read Guest =
          line_of-words config given false 12 (20 ∷ 20 ∷ []) (codes "guest") (decimal source.port ∷ decimal vlan ∷ []) (vlan_are_words Guest source.port vlan number tagged.high) refl refl

      known : has_port source.port config ≡ true
      known =
          ap (is_among source.port) is ∙ among-append source.port front (source ∷ rest) ∙ ap (λ b. b || (eqb source.port source.port || is_among source.port rest)) new
          ∙ ap (λ b. b || is_among source.port rest) (same_number source.port)

      free : has_other_vlan other source.port config.ports ≡ false
      free =
          ap (has_other_vlan other source.port) is
          ∙ list_any-append (λ p. eqb p.port source.port && not (eqb (other_vlan other p) 0)) front (source ∷ rest)
          ∙ or_from (has_other_vlan other source.port front) (has_other_vlan other source.port (source ∷ rest)) (unfound other source.port front new)
          (or_from (eqb source.port source.port && not (eqb (other_vlan other source) 0)) (has_other_vlan other source.port rest)
          (ap₂ (λ b n. b && not (eqb n 0)) (same_number source.port) none) (unfound other source.port rest last))

      changed : give_vlan other source.port vlan config.ports ≡ front ++ with_other_vlan other vlan source ∷ rest
      changed =
          ap (give_vlan other source.port vlan) is ∙ map-append (change_vlan other source.port vlan) front (source ∷ rest)
          ∙ ap₂ (λ xs ys. xs ++ ys) (untouched other source.port vlan front new)
          (ap₂ (λ q ys. q ∷ ys) (ap (λ b. cond b (with_other_vlan other vlan source) source) (same_number source.port)) (untouched other source.port vlan rest last))

-- ---- the lines of all ports

-- a port without its guest VLAN
abbrev pub unguested : PortConf → PortConf
unguested p = record p { guest = 0 }

-- ports before the lines of one kind, and after them
record AreStages (other : OtherVlan) (source target : PortConf → PortConf) : Type 0 where
  source_port : (p : PortConf) → (source p).port ≡ p.port
  target_port : (p : PortConf) → (target p).port ≡ p.port
  none : (p : PortConf) → other_vlan other (source p) ≡ 0
  given : (p : PortConf) → with_other_vlan other (other_vlan other p) (source p) ≡ target p
  skipped : (p : PortConf) → other_vlan other p ≡ 0 → source p ≡ target p
  fits : (p : PortConf) → IsConf p → other_vlan other p ≤ 4094

bare_then_restricted : AreStages Restricted bare unguested
bare_then_restricted = record {
  source_port = λ p. refl;
  target_port = λ p. refl;
  none = λ p. refl;
  given = λ p. refl;
  skipped = λ p e. ap (λ vlan. record p { restricted = vlan; guest = 0 }) (sym e);
  fits = λ p h. h.restricted;
}

restricted_then_guest : AreStages Guest unguested (λ p. p)
restricted_then_guest = record {
  source_port = λ p. refl;
  target_port = λ p. refl;
  none = λ p. refl;
  given = λ p. refl;
  skipped = λ p e. ap (λ vlan. record p { guest = vlan }) (sym e);
  fits = λ p h. h.guest;
}

module _ (other : OtherVlan) (source target : PortConf → PortConf) (stages : AreStages other source target) (room : ℕ) where
  stage_back : (config : Config) (given n : ℕ) (front ports : List PortConf) (more : List (List ℕ)) → are_valid_ports (front ++ ports) ≡ true
      → config.ports ≡ map target front ++ map source ports
      → read_lines room (before config given n) (map spaced (vlan_lines other ports) ++ more)
      ≡ read_lines room (before (record config { ports = map target (front ++ ports) }) given (n + length (vlan_lines other ports))) more
  stage_back config given n front [] more hs is =
      ap₂ (λ all n. read_lines room (before (record config { ports = all }) given n) more) (is ∙ append-nil (map target front) ∙ ap (map target) (sym (append-nil front))) (none n)
    where
      none : (n : ℕ) → n ≡ n + 0
      none n = omega arith
  stage_back config given n front (conf ∷ ports) more hs is =
      by_vlan (λ config' n'. stage_back config' given n' (front ++ conf ∷ []) ports more (ap are_valid_ports (append_assoc front (conf ∷ []) ports) ∙ hs)) (eqb (other_vlan other conf) 0) refl
    where
      at : IsAmong front conf ports
      at = valid_ports-at front conf ports hs

      joined : map target front ++ target conf ∷ map source ports ≡ map target (front ++ conf ∷ []) ++ map source ports
      joined = sym (ap (λ l. l ++ map source ports) (map-append target front (conf ∷ [])) ∙ append_assoc (map target front) (target conf ∷ []) (map source ports))

      all_is : map target ((front ++ conf ∷ []) ++ ports) ≡ map target (front ++ conf ∷ ports)
      all_is = ap (map target) (append_assoc front (conf ∷ []) ports)

      next : (n m : ℕ) → n + 1 + m ≡ n + suc m
      next n m = omega arith

      is_zero : (n : ℕ) → eqb n 0 ≡ true → n ≡ 0
      is_zero n h = grind (arith, nat_tests)

      positive : (n : ℕ) → eqb n 0 ≡ false → 1 ≤ n
      positive n h = grind (arith, nat_tests)

      lines_from : Bool → List (List (List ℕ))
      lines_from b = cond b [] ((other_vlan_word other ∷ decimal conf.port ∷ decimal (other_vlan other conf) ∷ []) ∷ []) ++ vlan_lines other ports

      -- the lines of the ports behind this one are read
      AreRead : Type 0
      AreRead = (config' : Config) (n' : ℕ) → config'.ports ≡ map target (front ++ conf ∷ []) ++ map source ports
          → read_lines room (before config' given n') (map spaced (vlan_lines other ports) ++ more)
          ≡ read_lines room (before (record config' { ports = map target ((front ++ conf ∷ []) ++ ports) }) given (n' + length (vlan_lines other ports))) more

      by_vlan : AreRead → (b : Bool) → eqb (other_vlan other conf) 0 ≡ b
          → read_lines room (before config given n) (map spaced (lines_from (eqb (other_vlan other conf) 0)) ++ more)
          ≡ read_lines room (before (record config { ports = map target (front ++ conf ∷ ports) }) given (n + length (lines_from (eqb (other_vlan other conf) 0)))) more
      by_vlan again true e =
          ap (λ b. read_lines room (before config given n) (map spaced (lines_from b) ++ more)) e
          ∙ again config n
          (is ∙ ap (λ p. map target front ++ p ∷ map source ports) (stages.skipped conf (is_zero (other_vlan other conf) e)) ∙ joined)
          ∙ ap (λ all. read_lines room (before (record config { ports = all }) given (n + length (vlan_lines other ports))) more) all_is
          ∙ ap (λ b. read_lines room (before (record config { ports = map target (front ++ conf ∷ ports) }) given (n + length (lines_from b))) more) (sym e)
      by_vlan again false e =
          let vlan = other_vlan other conf in
          let line = spaced (other_vlan_word other ∷ decimal conf.port ∷ decimal vlan ∷ []) in
          let config' : Config = record config { ports = map target front ++ target conf ∷ map source ports } in
          ap (λ b. read_lines room (before config given n) (map spaced (lines_from b) ++ more)) e
          ∙ step room config given n line (map spaced (vlan_lines other ports) ++ more) config' given (read_one e)
          ∙ again config' (n + 1) joined
          ∙ ap₂ (λ all n. read_lines room (before (record config { ports = all }) given n) more) all_is (next n (length (vlan_lines other ports)))
          ∙ ap (λ b. read_lines room (before (record config { ports = map target (front ++ conf ∷ ports) }) given (n + length (lines_from b))) more) (sym e)
        where
          read_one : eqb (other_vlan other conf) 0 ≡ false → line_of config given false (spaced (other_vlan_word other ∷ decimal conf.port ∷ decimal (other_vlan other conf) ∷ []))
              ≡ Ok (Setting (record config { ports = map target front ++ target conf ∷ map source ports }) given)
          read_one e =
              let vlan = other_vlan other conf in
              let number = subst (λ n. IsWithin 1 60 n) (sym (stages.source_port conf)) at.good.port in
              ap (λ n. line_of config given false (spaced (other_vlan_word other ∷ decimal n ∷ decimal vlan ∷ []))) (sym (stages.source_port conf))
              ∙ given_line config given other (map target front) (source conf) (map source ports) vlan is number
              (record { low = positive vlan e; high = stages.fits conf at.good })
              (ap (λ n. is_among n (map target front)) (stages.source_port conf) ∙ among-map target stages.target_port conf.port front ∙ at.new)
              (ap (λ n. is_among n (map source ports)) (stages.source_port conf) ∙ among-map source stages.source_port conf.port ports ∙ at.last)
              (stages.none conf)
              ∙ ap (λ p. Ok (Setting (record config { ports = map target front ++ p ∷ map source ports }) given)) (stages.given conf)

-- the ports with their restricted VLANs, and then with their guest VLANs
pub restricted_back : (room : ℕ) (config : Config) (given n : ℕ) (ports : List PortConf) (more : List (List ℕ)) → are_valid_ports ports ≡ true → config.ports ≡ map bare ports
    → read_lines room (before config given n) (map spaced (vlan_lines Restricted ports) ++ more)
    ≡ read_lines room (before (record config { ports = map unguested ports }) given (n + length (vlan_lines Restricted ports))) more
restricted_back room config given n ports more h is = stage_back Restricted bare unguested bare_then_restricted room config given n [] ports more h is

pub guest_back : (room : ℕ) (config : Config) (given n : ℕ) (ports : List PortConf) (more : List (List ℕ)) → are_valid_ports ports ≡ true → config.ports ≡ map unguested ports
    → read_lines room (before config given n) (map spaced (vlan_lines Guest ports) ++ more)
    ≡ read_lines room (before (record config { ports = ports }) given (n + length (vlan_lines Guest ports))) more
guest_back room config given n ports more h is =
    stage_back Guest unguested (λ p. p) restricted_then_guest room config given n [] ports more h is
    ∙ ap (λ all. read_lines room (before (record config { ports = all }) given (n + length (vlan_lines Guest ports))) more) (map_same ports)
  where
    map_same : (ports : List PortConf) → map (λ p. p) ports ≡ ports
    map_same [] = refl
    map_same (p ∷ ports) = ap (λ rest. p ∷ rest) (map_same ports)
