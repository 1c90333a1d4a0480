-- Printed settings, all of them, read back as what they were.
use Rattle.std.proofs.Common.{◌≡◌, ℕ, ◌+◌, true, false, eqb, Ok, List, [], ◌∷◌, ◌++◌, map, length, codes, refl, sym, ap, ◌∙◌, subst, arith, append-nil, append_assoc, length-append}
use Rattle.std.specs.Fmt.{decimal}
use Rattle.std.proofs.lemmas.Bool.{cond_both}
use Rattle.std.proofs.lemmas.List.{map-append, length-map}
use Rattle.wire_defs.specs.Text.{ended_lines}
use Rattle.switch_event.specs.declared.config.PortConf.{PortConf}
use Rattle.switch_event.specs.Config.{Config, empty, are_valid_ports, is_valid}
use Rattle.trace_defs.specs.declared.given.TheConstants.{SERVER}
use Rattle.trace_defs.specs.declared.keyword.OtherVlan.{OtherVlan}
use Rattle.trace_defs.specs.declared.keyword.OtherVlan.TheVariants.{Restricted, Guest}
use Rattle.trace_defs.specs.Line.{was_given, all_given, other_vlan, line_of}
use Rattle.trace_defs.specs.Line.Line.{Begin}
use Rattle.trace_defs.specs.Text.{spaced, client_words, port_words, other_vlan_word, port_vlan_lines, vlan_lines, first_lines, time_lines, last_lines, config_lines, config_text}
use Rattle.trace_defs.specs.Trace.{Progress, start, read_lines}
use Rattle.trace_defs.specs.Trace.Reading.{Going}
use Rattle.trace_defs.proofs.TextLines.{IsUnfed, AreUnfed, AreUnfed-append, words-unfed, ended_lines-lines}
use Rattle.trace_defs.proofs.PortFacts.{valid_ports-at}
use Rattle.trace_defs.proofs.LineFacts.{Gives-at}
use Rattle.trace_defs.proofs.SettingFacts.{IsBefore, IsRead-valid}
use Rattle.trace_defs.specs.Settings.{IsRead}
use Rattle.trace_defs.proofs.SettingLines.{line_of-before}
use Rattle.trace_defs.proofs.SettingWords.{port_are_words, vlan_are_words, clients_unfed, first_unfed, times_unfed, last_unfed}
use Rattle.trace_defs.proofs.SettingsBack.{bare, after, clients_back, ports_back, first_back, last_back}
use Rattle.trace_defs.proofs.VlansBack.{unguested, restricted_back, guest_back}
use Rattle.trace_defs.proofs.TraceFacts.{reading_sound}

-- the settings before the clients, the clients, the ports, their other VLANs, the times and the other settings
abbrev parts : Config → List (List (List ℕ))
parts c =
    first_lines c ++ (map client_words c.clients ++ (map port_words c.ports ++ (vlan_lines Restricted c.ports ++ (vlan_lines Guest c.ports ++ (time_lines c.times ++ last_lines c)))))

seven : {A : Type 0} (a b c d e f g : List A) → a ++ b ++ (c ++ d ++ e) ++ f ++ g ≡ a ++ (b ++ (c ++ (d ++ (e ++ (f ++ g)))))
seven a b c d e f g = simp append_assoc

parts_are : (c : Config) → config_lines c ≡ parts c
parts_are c = seven (first_lines c) (map client_words c.clients) (map port_words c.ports) (vlan_lines Restricted c.ports) (vlan_lines Guest c.ports) (time_lines c.times) (last_lines c)

ports_unfed : (front ports : List PortConf) → are_valid_ports (front ++ ports) ≡ true → AreUnfed (map port_words ports)
ports_unfed front [] h = tt
ports_unfed front (conf ∷ ports) h = (
  words-unfed (12 ∷ 20 ∷ 20 ∷ 12 ∷ []) (port_words conf) (port_are_words conf (valid_ports-at front conf ports h).good),
  ports_unfed (front ++ conf ∷ []) ports (ap are_valid_ports (append_assoc front (conf ∷ []) ports) ∙ h),
)

vlans_unfed : (other : OtherVlan) (front ports : List PortConf) → are_valid_ports (front ++ ports) ≡ true → AreUnfed (vlan_lines other ports)
vlans_unfed other front [] h = tt
vlans_unfed other front (conf ∷ ports) h =
    AreUnfed-append (port_vlan_lines other conf) (vlan_lines other ports)
    (cond_both (eqb (other_vlan other conf) 0) [] ((other_vlan_word other ∷ decimal conf.port ∷ decimal (other_vlan other conf) ∷ []) ∷ []) AreUnfed (λ e. tt) (λ e. (line other, tt)))
    (vlans_unfed other (front ++ conf ∷ []) ports (ap are_valid_ports (append_assoc front (conf ∷ []) ports) ∙ h))
  where
    line : (o : OtherVlan) → IsUnfed (other_vlan_word o ∷ decimal conf.port ∷ decimal (other_vlan o conf) ∷ [])
    line Restricted =
        let good = (valid_ports-at front conf ports h).good in
        words-unfed (12 ∷ 20 ∷ 20 ∷ []) (codes "restricted" ∷ decimal conf.port ∷ decimal conf.restricted ∷ []) (vlan_are_words Restricted conf.port conf.restricted good.port good.restricted)
    line Guest =
        let good = (valid_ports-at front conf ports h).good in
        words-unfed (12 ∷ 20 ∷ 20 ∷ []) (codes "guest" ∷ decimal conf.port ∷ decimal conf.guest ∷ []) (vlan_are_words Guest conf.port conf.guest good.port good.guest)

config_unfed : (c : Config) (given : ℕ) → IsRead c given → was_given SERVER given ≡ true → AreUnfed (config_lines c)
config_unfed c given h served =
    let last = time_lines c.times ++ last_lines c in
    let guests = vlan_lines Guest c.ports ++ last in
    let restricted = vlan_lines Restricted c.ports ++ guests in
    let ports = map port_words c.ports ++ restricted in
    subst AreUnfed (sym (parts_are c)) (
    AreUnfed-append (first_lines c) (map client_words c.clients ++ ports) (first_unfed c h.bridge h.nas (h.server served))
    (AreUnfed-append (map client_words c.clients) ports (clients_unfed [] c.clients h.clients.new)
    (AreUnfed-append (map port_words c.ports) restricted (ports_unfed [] c.ports h.ports)
    (AreUnfed-append (vlan_lines Restricted c.ports) guests (vlans_unfed Restricted [] c.ports h.ports)
    (AreUnfed-append (vlan_lines Guest c.ports) last (vlans_unfed Guest [] c.ports h.ports)
    (AreUnfed-append (time_lines c.times) (last_lines c) (times_unfed c.times h.timed) (last_unfed c h.clocked h.seed))))))
    )

-- so many lines
config_length : (c : Config)
    → 3 + length c.clients + length c.ports + length (vlan_lines Restricted c.ports) + length (vlan_lines Guest c.ports) + 1 + 1 + 1 + 1 + 1 + 1 + 1 + 1 + 1 + 1 + 1 ≡ length (config_lines c)
config_length c =
    let last = time_lines c.times ++ last_lines c in
    let guests = vlan_lines Guest c.ports ++ last in
    let restricted = vlan_lines Restricted c.ports ++ guests in
    let ports = map port_words c.ports ++ restricted in
    omega (
      arith,
      ap length (parts_are c),
      length-append (map client_words c.clients) ports,
      length-append (map port_words c.ports) restricted,
      length-append (vlan_lines Restricted c.ports) guests,
      length-append (vlan_lines Guest c.ports) last,
      length-map c.clients client_words,
      length-map c.ports port_words,
    )

-- the lines of settings, and what follows them
config_back : (room : ℕ) (c : Config) (given : ℕ) (more : List (List ℕ)) → IsRead c given → was_given SERVER given ≡ true
    → read_lines room (start empty) (map spaced (config_lines c) ++ more) ≡ read_lines room (after c all_given (length (config_lines c))) more
config_back room c given more h served =
    let c1 : Config = record empty { bridge = c.bridge; nas = c.nas; server = c.server; secret = c.secret } in
    let c2 : Config = record c1 { clients = c.clients } in
    let c3 : Config = record c2 { ports = map bare c.ports } in
    let c4 : Config = record c2 { ports = map unguested c.ports } in
    let c5 : Config = record c2 { ports = c.ports } in
    let n3 = 3 + length c.clients + length c.ports in
    let n4 = n3 + length (vlan_lines Restricted c.ports) in
    let n5 = n4 + length (vlan_lines Guest c.ports) in
    let last = map spaced (time_lines c.times ++ last_lines c) ++ more in
    let guests = map spaced (vlan_lines Guest c.ports) ++ last in
    let restricted = map spaced (vlan_lines Restricted c.ports) ++ guests in
    let ports = map spaced (map port_words c.ports) ++ restricted in
    let clients = map spaced (map client_words c.clients) ++ ports in
    ap (read_lines room (start empty)) (lines_are c)
    ∙ first_back room c clients h.bridge h.nas (h.server served)
    ∙ clients_back room c1 7 3 c.clients ports h.clients.new (omega (arith, h.clients.few))
    ∙ ports_back room c2 7 (3 + length c.clients) [] c.ports restricted h.ports refl
    ∙ restricted_back room c3 7 n3 c.ports guests h.ports refl
    ∙ guest_back room c4 7 n4 c.ports last h.ports refl
    ∙ last_back room c5 c n5 more h.timed h.clocked h.seed
    ∙ ap (λ n. read_lines room (after c all_given n) more) (config_length c)
  where
    joined : (xs ys : List (List (List ℕ))) (more : List (List ℕ)) → map spaced (xs ++ ys) ++ more ≡ map spaced xs ++ (map spaced ys ++ more)
    joined xs ys more = ap (λ l. l ++ more) (map-append spaced xs ys) ∙ append_assoc (map spaced xs) (map spaced ys) more

    lines_are : (c : Config) → map spaced (config_lines c) ++ more
        ≡ map spaced (first_lines c) ++ (map spaced (map client_words c.clients) ++ (map spaced (map port_words c.ports)
        ++ (map spaced (vlan_lines Restricted c.ports) ++ (map spaced (vlan_lines Guest c.ports) ++ (map spaced (time_lines c.times ++ last_lines c) ++ more)))))
    lines_are c =
        let last = time_lines c.times ++ last_lines c in
        let guests = vlan_lines Guest c.ports ++ last in
        let restricted = vlan_lines Restricted c.ports ++ guests in
        let ports = map port_words c.ports ++ restricted in
        ap (λ l. map spaced l ++ more) (parts_are c)
        ∙ joined (first_lines c) (map client_words c.clients ++ ports) more
        ∙ ap (λ l. map spaced (first_lines c) ++ l) (joined (map client_words c.clients) ports more
        ∙ ap (λ l. map spaced (map client_words c.clients) ++ l) (joined (map port_words c.ports) restricted more
        ∙ ap (λ l. map spaced (map port_words c.ports) ++ l) (joined (vlan_lines Restricted c.ports) guests more
        ∙ ap (λ l. map spaced (vlan_lines Restricted c.ports) ++ l) (joined (vlan_lines Guest c.ports) last more))))

-- their text, and what follows it
pub config_text-back : (room : ℕ) (c : Config) (given : ℕ) (more : List ℕ) → IsRead c given → was_given SERVER given ≡ true
    → read_lines room (start empty) (ended_lines (config_text c ++ more)) ≡ read_lines room (after c all_given (length (config_lines c))) (ended_lines more)
config_text-back room c given more h served =
    ap (read_lines room (start empty)) (ended_lines-lines (config_lines c) more (config_unfed c given h served)) ∙ config_back room c given (ended_lines more) h served

-- the settings of a trace are printed as a text that reads as those settings, each given once
pub config_reads_back : (room : ℕ) (lines : List (List ℕ)) (p : Progress) → read_lines room (start empty) lines ≡ Going p → p.begun ≡ true
    → read_lines room (start empty) (ended_lines (config_text p.config)) ≡ Going (record (start p.config) { given = all_given; begun = true; lines = length (config_lines p.config) })
config_reads_back room lines p e begun =
    let h = reading_sound room lines p e in
    ap (λ text. read_lines room (start empty) (ended_lines text)) (sym (append-nil (config_text p.config))) ∙ config_text-back room p.config p.given [] h.read (h.begun begun)

-- and they are valid
pub reading_valid : (room : ℕ) (lines : List (List ℕ)) (p : Progress) → read_lines room (start empty) lines ≡ Going p → p.begun ≡ true → is_valid p.config ≡ true
reading_valid room lines p e begun =
    let h = reading_sound room lines p e in
    IsRead-valid p.config p.given h.read (h.begun begun)

-- as they are at the line that ends them
pub begin_valid : (room : ℕ) (lines : List (List ℕ)) (p : Progress) (line : List ℕ) → read_lines room (start empty) lines ≡ Going p → line_of p.config p.given false line ≡ Ok Begin
    → is_valid p.config ≡ true
begin_valid room lines p line e is =
    let h = reading_sound room lines p e in
    IsRead-valid p.config p.given h.read (Gives-at (IsBefore p.given) (line_of p.config p.given false line) Begin (line_of-before p.config p.given h.read line) is)
