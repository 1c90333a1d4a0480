-- The words of printed settings.
use Rattle.std.proofs.Common.{◌≡◌, ℕ, ◌≤◌, Bool, true, List, [], ◌∷◌, ◌++◌, map, codes, refl, arith}
use Rattle.std.specs.Fmt.{decimal}
use Rattle.hex.specs.Hex.{encode_lower}
use Rattle.wire_core.specs.declared.address.Addr.{Addr}
use Rattle.machine_vars.specs.declared.control.Times.{Times}
use Rattle.switch_event.specs.declared.config.PortConf.{PortConf}
use Rattle.switch_event.specs.Config.{Config, Client, Nas}
use Rattle.trace_defs.specs.declared.keyword.OtherVlan.{OtherVlan}
use Rattle.trace_defs.specs.declared.keyword.OtherVlan.TheVariants.{Restricted, Guest}
use Rattle.trace_defs.specs.Text.{dotted, switch_text, client_words, port_words, other_vlan_word, set_words, first_lines, time_lines, last_lines}
use Rattle.trace_defs.proofs.PlainWords.{IsWord, is_word, word_by_test, AreWords}
use Rattle.trace_defs.proofs.TextLines.{IsUnfed, AreUnfed, words-unfed}
use Rattle.trace_defs.proofs.NumberText.{number_word, address_word}
use Rattle.trace_defs.proofs.OctetText.{hex_word, control_word, switch_word}
use Rattle.trace_defs.specs.Sized.{IsSized}
use Rattle.trace_defs.proofs.PortFacts.{IsConf}
use Rattle.trace_defs.specs.Sized.{IsWithin}
use Rattle.trace_defs.specs.Settings.{IsClient, AreNew, IsNas, IsServer, IsTimed, IsClocked}

pub as_number : (least most n : ℕ) → IsWithin least most n → most ≤ 4294967295 → IsWord 20 (decimal n)
as_number least most n h fits = number_word n (omega (arith, h.high))

-- ---- the words of each line

pub bridge_words : (bridge : List ℕ) → IsSized 6 6 bridge → AreWords (12 ∷ 12 ∷ []) (codes "bridge" ∷ encode_lower bridge ∷ [])
bridge_words bridge h = (word_by_test 12 (codes "bridge") refl, (hex_word 6 6 bridge h (omega (arith, h.low)), tt))

pub nas_words : (nas : Nas) → IsNas nas → AreWords (12 ∷ 83 ∷ 32 ∷ []) (codes "nas" ∷ dotted nas.ip ∷ nas.name ∷ [])
nas_words nas h = (word_by_test 12 (codes "nas") refl, (address_word nas.ip h.ip, (record { some = h.name.some; long = h.short; plain = h.name.plain }, tt)))

pub server_words : (server : Addr) (secret : List ℕ) → IsServer server secret → AreWords (12 ∷ 83 ∷ 20 ∷ 128 ∷ []) (codes "server" ∷ dotted server.ip ∷ decimal server.port ∷ encode_lower secret ∷ [])
server_words server secret h = (
  word_by_test 12 (codes "server") refl,
  (address_word server.ip h.ip, (as_number 1 65535 server.port h.port (omega arith), (hex_word 1 64 secret h.shared (omega (arith, h.shared.low)), tt))),
)

pub client_are_words : (client : Client) → IsClient client → AreWords (12 ∷ 83 ∷ 128 ∷ []) (client_words client)
client_are_words client h = (word_by_test 12 (codes "client") refl, (address_word client.ip h.ip, (hex_word 1 64 client.secret h.secret (omega (arith, h.secret.low)), tt)))

pub port_are_words : (conf : PortConf) → IsConf conf → AreWords (12 ∷ 20 ∷ 20 ∷ 12 ∷ []) (port_words conf)
port_are_words conf h = (
  word_by_test 12 (codes "port") refl,
  (as_number 1 60 conf.port h.port (omega arith), (as_number 1 4094 conf.native h.native (omega arith), (control_word conf.control, tt))),
)

pub vlan_are_words : (other : OtherVlan) (port vlan : ℕ) → IsWithin 1 60 port → vlan ≤ 4094 → AreWords (12 ∷ 20 ∷ 20 ∷ []) (other_vlan_word other ∷ decimal port ∷ decimal vlan ∷ [])
vlan_are_words other port vlan h fits = (first other, (as_number 1 60 port h (omega arith), (number_word vlan (omega (arith, fits)), tt)))
  where
    first : (other : OtherVlan) → IsWord 12 (other_vlan_word other)
    first Restricted = word_by_test 12 (codes "restricted") refl
    first Guest = word_by_test 12 (codes "guest") refl

pub set_are_words : (name value : List ℕ) → IsWord 20 name → IsWord 20 value → AreWords (12 ∷ 20 ∷ 20 ∷ []) (set_words name value)
set_are_words name value named valued = (word_by_test 12 (codes "set") refl, (named, (valued, tt)))

pub switch_value : (on : Bool) → IsWord 20 (switch_text on)
switch_value on = record { some = (switch_word on).some; long = omega (arith, (switch_word on).long); plain = (switch_word on).plain }

pub clock_words : (n : ℕ) → IsWithin 0 4294967295 n → AreWords (12 ∷ 20 ∷ []) (codes "clock" ∷ decimal n ∷ [])
clock_words n h = (word_by_test 12 (codes "clock") refl, (as_number 0 4294967295 n h (omega arith), tt))

pub seed_words : (seed : List ℕ) → IsSized 32 32 seed → AreWords (12 ∷ 64 ∷ []) (codes "seed" ∷ encode_lower seed ∷ [])
seed_words seed h = (word_by_test 12 (codes "seed") refl, (hex_word 32 32 seed h (omega (arith, h.low)), tt))

-- none of the lines holds a line feed
pub first_unfed : (c : Config) → IsSized 6 6 c.bridge → IsNas c.nas → IsServer c.server c.secret → AreUnfed (first_lines c)
first_unfed c b h s = (
  words-unfed (12 ∷ 12 ∷ []) (codes "bridge" ∷ encode_lower c.bridge ∷ []) (bridge_words c.bridge b),
  (
    words-unfed (12 ∷ 83 ∷ 32 ∷ []) (codes "nas" ∷ dotted c.nas.ip ∷ c.nas.name ∷ []) (nas_words c.nas h),
    (words-unfed (12 ∷ 83 ∷ 20 ∷ 128 ∷ []) (codes "server" ∷ dotted c.server.ip ∷ decimal c.server.port ∷ encode_lower c.secret ∷ []) (server_words c.server c.secret s), tt),
  ),
)

pub clients_unfed : (before clients : List Client) → AreNew before clients → AreUnfed (map client_words clients)
clients_unfed before [] hs = tt
clients_unfed before (client ∷ clients) hs =
    (words-unfed (12 ∷ 83 ∷ 128 ∷ []) (client_words client) (client_are_words client hs.0), clients_unfed (before ++ client ∷ []) clients hs.2)

number_unfed : (name : List ℕ) (least most n : ℕ) → is_word 20 name ≡ true → IsWithin least most n → most ≤ 4294967295 → IsUnfed (set_words name (decimal n))
number_unfed name least most n named h fits =
    words-unfed (12 ∷ 20 ∷ 20 ∷ []) (set_words name (decimal n)) (set_are_words name (decimal n) (word_by_test 20 name named) (as_number least most n h fits))

switch_unfed : (name : List ℕ) (on : Bool) → is_word 20 name ≡ true → IsUnfed (set_words name (switch_text on))
switch_unfed name on named = words-unfed (12 ∷ 20 ∷ 20 ∷ []) (set_words name (switch_text on)) (set_are_words name (switch_text on) (word_by_test 20 name named) (switch_value on))

pub times_unfed : (times : Times) → IsTimed times → AreUnfed (time_lines times)
times_unfed times t = (
  number_unfed (codes "quiet-period") 1 65535 times.quiet refl t.quiet (omega arith),
  (
    number_unfed (codes "server-timeout") 1 65535 times.server refl t.server (omega arith),
    (
      number_unfed (codes "reauth-max") 1 10 times.reauth_max refl t.reauth_max (omega arith),
      (number_unfed (codes "reauth-period") 1 4294967295 times.reauth_period refl t.reauth_period (omega arith), (switch_unfed (codes "reauth") times.reauth refl, tt)),
    ),
  ),
)

pub last_unfed : (c : Config) → IsClocked c.guest_wait c.window c.clock → IsSized 32 32 c.seed → AreUnfed (last_lines c)
last_unfed c t seed = (
  number_unfed (codes "guest-wait") 1 65535 c.guest_wait refl t.wait (omega arith),
  (
    number_unfed (codes "dyn-window") 1 86400 c.window refl t.window_day (omega arith),
    (
      switch_unfed (codes "require-ma") c.require_ma refl,
      (
        words-unfed (12 ∷ 20 ∷ []) (codes "clock" ∷ decimal c.clock ∷ []) (clock_words c.clock t.clock_fits),
        (words-unfed (12 ∷ 64 ∷ []) (codes "seed" ∷ encode_lower c.seed ∷ []) (seed_words c.seed seed), (record { plain = refl }, tt)),
      ),
    ),
  ),
)
