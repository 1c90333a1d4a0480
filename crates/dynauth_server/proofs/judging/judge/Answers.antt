use Rattle.std.proofs.Common.{◌≡◌, ◌∙◌, ℕ, true, false, List, length, Some, None, sym, ap, arith}
use Rattle.std.specs.Prelude.{nat_lt}
use Rattle.std.specs.Str.{bytes_eq}
use Rattle.radius_defs.specs.declared.attribute.TheConstants.{EVENT_TIMESTAMP}
use Rattle.radius_defs.specs.Packet.{packet_text}
use Rattle.radius_defs.specs.Digest.{zeros, request_auth}
use Rattle.radius_defs.specs.Message.{message_state_of}
use Rattle.radius_defs.specs.Attributes.{first_number}
use Rattle.kept_defs.specs.Kept.{newest_reply}
use Rattle.dup_cache.specs.Reply.{reply_in}
use Rattle.std.specs.Option.{option_map}
use Rattle.std.proofs.lemmas.Grind.{common_steps}
use Rattle.switch_event.specs.Config.{Config, Client}
use Rattle.dynauth_defs.specs.Session.{matching}
use Rattle.dynauth_defs.specs.Judge.{Drop, Nak, Ack, judged, is_dynamic, is_untrue, is_far, first_line, lines, done}
use Rattle.dynauth_defs.specs.declared.TheConstants.{MOST_REQUEST}
use Rattle.switch_event.specs.declared.drop.DynDrop.TheVariants.{Oversize, BadCode}
use Rattle.dynauth_server.specs.Known.{known}
use Rattle.dynauth_server.specs.Lines.{answered}
use Rattle.dynauth_defs.proofs.AnsweredLemmas.{acknowledged_actions}
use Rattle.dynauth_server.proofs.JudgeLemmas.{judged-packet, judged-malformed, to-bad-auth, to-bad-message, to-again, to-stale, to-refusals, request-of}
use Rattle.dynauth_server.proofs.judging.judge.Goals as goal

pub returns-in_default-parse-clause-line : goal.returns-in_default-parse-clause-line
returns-in_default-parse-clause-line g c =
    judged-malformed c.args.c.now c.args.kept.now c.args.now (g.R.Roll.rows c.args.roll.now) c.args.from c.args.b.now
    c.as_slice.result.now c.in-Some.client.now c.in-Some.replies.now
    (c.as_slice.ensures.value ∙ ap (λ (k : Config). k.clients) c.c.view_is) (sym c.client_of.ensures ∙ ap (option_map known) c.in-Some.is) c.in_default-parse.field-0 c.in_default-parse.ensures.exact

pub returns-then-text-gt-MOST_REQUEST-clause-line : goal.returns-then-text-gt-MOST_REQUEST-clause-line
returns-then-text-gt-MOST_REQUEST-clause-line g c =
    let rows = g.R.Roll.rows c.args.roll.now in
    let whole = judged-packet c.args.c.now c.args.kept.now c.args.now rows c.args.from c.args.b.now c.as_slice.result.now c.in-Some.client.now c.in-Some.replies.now
    (c.as_slice.ensures.value ∙ ap (λ (k : Config). k.clients) c.c.view_is) (sym c.client_of.ensures ∙ ap (option_map known) c.in-Some.is) c.in-Ok.p c.in-Ok.ensures.exact in
    let first : Drop Oversize ≡ first_line (lines c.args.c.now c.in-Some.client.now c.in-Some.replies.now c.args.now rows c.args.from.port c.in-Ok.p) (done c.in-Ok.p (matching c.in-Ok.p.attributes rows)) = grind (arith, common_steps) in
    first ∙ sym whole

pub returns-then-not-is_dynamic-clause-line : goal.returns-then-not-is_dynamic-clause-line
returns-then-not-is_dynamic-clause-line g c =
    let rows = g.R.Roll.rows c.args.roll.now in
    let whole = judged-packet c.args.c.now c.args.kept.now c.args.now rows c.args.from c.args.b.now c.as_slice.result.now c.in-Some.client.now c.in-Some.replies.now
    (c.as_slice.ensures.value ∙ ap (λ (k : Config). k.clients) c.c.view_is) (sym c.client_of.ensures ∙ ap (option_map known) c.in-Some.is) c.in-Ok.p c.in-Ok.ensures.exact in
    let first : Drop BadCode ≡ first_line (lines c.args.c.now c.in-Some.client.now c.in-Some.replies.now c.args.now rows c.args.from.port c.in-Ok.p) (done c.in-Ok.p (matching c.in-Ok.p.attributes rows)) = grind (arith, common_steps) in
    first ∙ sym whole

pub returns-then-not-is_authentic-clause-line : goal.returns-then-not-is_authentic-clause-line
returns-then-not-is_authentic-clause-line g c =
    let rows = g.R.Roll.rows c.args.roll.now in
    let whole = judged-packet c.args.c.now c.args.kept.now c.args.now rows c.args.from c.args.b.now c.as_slice.result.now c.in-Some.client.now c.in-Some.replies.now
    (c.as_slice.ensures.value ∙ ap (λ (k : Config). k.clients) c.c.view_is) (sym c.client_of.ensures ∙ ap (option_map known) c.in-Some.is) c.in-Ok.p c.in-Ok.ensures.exact in
    let long : nat_lt MOST_REQUEST (length (packet_text c.in-Ok.p)) ≡ false = grind (arith, common_steps) in
    let dynamic : is_dynamic c.in-Ok.p.code ≡ true = grind (arith, common_steps) in
    let secret : c.as_slice-2.result.now ≡ c.in-Some.client.now.secret = c.as_slice-2.ensures.value ∙ ap (λ (k : Client). k.secret) c.client.view_is in
    let auth : bytes_eq c.in-Ok.p.authenticator (request_auth (packet_text c.in-Ok.p) c.in-Some.client.now.secret) ≡ false =
    ap (λ (s : List ℕ). bytes_eq c.in-Ok.p.authenticator (request_auth (packet_text c.in-Ok.p) s)) (sym secret) ∙ sym c.is_authentic.ensures ∙ c.if-not-is_authentic.true in
    to-bad-auth c.args.c.now c.in-Some.client.now c.in-Some.replies.now c.args.now rows c.args.from.port c.in-Ok.p long dynamic auth ∙ sym whole

pub returns-then-is_untrue-clause-line : goal.returns-then-is_untrue-clause-line
returns-then-is_untrue-clause-line g c =
    let rows = g.R.Roll.rows c.args.roll.now in
    let whole = judged-packet c.args.c.now c.args.kept.now c.args.now rows c.args.from c.args.b.now c.as_slice.result.now c.in-Some.client.now c.in-Some.replies.now
    (c.as_slice.ensures.value ∙ ap (λ (k : Config). k.clients) c.c.view_is) (sym c.client_of.ensures ∙ ap (option_map known) c.in-Some.is) c.in-Ok.p c.in-Ok.ensures.exact in
    let long : nat_lt MOST_REQUEST (length (packet_text c.in-Ok.p)) ≡ false = grind (arith, common_steps) in
    let dynamic : is_dynamic c.in-Ok.p.code ≡ true = grind (arith, common_steps) in
    let secret : c.as_slice-2.result.now ≡ c.in-Some.client.now.secret = c.as_slice-2.ensures.value ∙ ap (λ (k : Client). k.secret) c.client.view_is in
    let auth : bytes_eq c.in-Ok.p.authenticator (request_auth (packet_text c.in-Ok.p) c.in-Some.client.now.secret) ≡ true =
    ap (λ (s : List ℕ). bytes_eq c.in-Ok.p.authenticator (request_auth (packet_text c.in-Ok.p) s)) (sym secret) ∙ sym c.is_authentic.ensures ∙ c.if-not-is_authentic.false in
    let secret3 : c.as_slice-3.result.now ≡ c.in-Some.client.now.secret = c.as_slice-3.ensures.value ∙ ap (λ (k : Client). k.secret) c.client.view_is in
    let message : is_untrue c.args.c.now.require_ma (message_state_of c.in-Ok.p (zeros 16) c.in-Some.client.now.secret) ≡ true =
    ap (λ (s : List ℕ). is_untrue c.args.c.now.require_ma (message_state_of c.in-Ok.p (zeros 16) s)) (sym secret3)
    ∙ ap (λ (k : Config). is_untrue k.require_ma (message_state_of c.in-Ok.p (zeros 16) c.as_slice-3.result.now)) (sym c.c.view_is)
    ∙ sym c.is_untrue.ensures ∙ c.if-is_untrue.true in
    to-bad-message c.args.c.now c.in-Some.client.now c.in-Some.replies.now c.args.now rows c.args.from.port c.in-Ok.p long dynamic auth message ∙ sym whole

pub returns-in-Some-look-clause-line : goal.returns-in-Some-look-clause-line
returns-in-Some-look-clause-line g c =
    let rows = g.R.Roll.rows c.args.roll.now in
    let whole = judged-packet c.args.c.now c.args.kept.now c.args.now rows c.args.from c.args.b.now c.as_slice.result.now c.in-Some.client.now c.in-Some.replies.now
    (c.as_slice.ensures.value ∙ ap (λ (k : Config). k.clients) c.c.view_is) (sym c.client_of.ensures ∙ ap (option_map known) c.in-Some.is) c.in-Ok.p c.in-Ok.ensures.exact in
    let long : nat_lt MOST_REQUEST (length (packet_text c.in-Ok.p)) ≡ false = grind (arith, common_steps) in
    let dynamic : is_dynamic c.in-Ok.p.code ≡ true = grind (arith, common_steps) in
    let secret : c.as_slice-2.result.now ≡ c.in-Some.client.now.secret = c.as_slice-2.ensures.value ∙ ap (λ (k : Client). k.secret) c.client.view_is in
    let auth : bytes_eq c.in-Ok.p.authenticator (request_auth (packet_text c.in-Ok.p) c.in-Some.client.now.secret) ≡ true =
    ap (λ (s : List ℕ). bytes_eq c.in-Ok.p.authenticator (request_auth (packet_text c.in-Ok.p) s)) (sym secret) ∙ sym c.is_authentic.ensures ∙ c.if-not-is_authentic.false in
    let secret3 : c.as_slice-3.result.now ≡ c.in-Some.client.now.secret = c.as_slice-3.ensures.value ∙ ap (λ (k : Client). k.secret) c.client.view_is in
    let message : is_untrue c.args.c.now.require_ma (message_state_of c.in-Ok.p (zeros 16) c.in-Some.client.now.secret) ≡ false =
    ap (λ (s : List ℕ). is_untrue c.args.c.now.require_ma (message_state_of c.in-Ok.p (zeros 16) s)) (sym secret3)
    ∙ ap (λ (k : Config). is_untrue k.require_ma (message_state_of c.in-Ok.p (zeros 16) c.as_slice-3.result.now)) (sym c.c.view_is)
    ∙ sym c.is_untrue.ensures ∙ c.if-is_untrue.false in
    let kept : newest_reply c.args.from.port (packet_text c.in-Ok.p) c.args.now c.in-Some.replies.now ≡ Some c.in-Some-look.reply.now =
    ap (λ (text : List ℕ). newest_reply c.args.from.port text c.args.now c.in-Some.replies.now) (sym c.text-2.ensures) ∙ sym c.look.ensures.reply ∙ ap reply_in c.in-Some-look.is in
    to-again c.args.c.now c.in-Some.client.now c.in-Some.replies.now c.args.now rows c.args.from.port c.in-Ok.p long dynamic auth message c.in-Some-look.reply.now kept ∙ sym whole

pub returns-then-is_stale-clause-line : goal.returns-then-is_stale-clause-line
returns-then-is_stale-clause-line g c =
    let rows = g.R.Roll.rows c.args.roll.now in
    let whole = judged-packet c.args.c.now c.args.kept.now c.args.now rows c.args.from c.args.b.now c.as_slice.result.now c.in-Some.client.now c.in-Some.replies.now
    (c.as_slice.ensures.value ∙ ap (λ (k : Config). k.clients) c.c.view_is) (sym c.client_of.ensures ∙ ap (option_map known) c.in-Some.is) c.in-Ok.p c.in-Ok.ensures.exact in
    let long : nat_lt MOST_REQUEST (length (packet_text c.in-Ok.p)) ≡ false = grind (arith, common_steps) in
    let dynamic : is_dynamic c.in-Ok.p.code ≡ true = grind (arith, common_steps) in
    let secret : c.as_slice-2.result.now ≡ c.in-Some.client.now.secret = c.as_slice-2.ensures.value ∙ ap (λ (k : Client). k.secret) c.client.view_is in
    let auth : bytes_eq c.in-Ok.p.authenticator (request_auth (packet_text c.in-Ok.p) c.in-Some.client.now.secret) ≡ true =
    ap (λ (s : List ℕ). bytes_eq c.in-Ok.p.authenticator (request_auth (packet_text c.in-Ok.p) s)) (sym secret) ∙ sym c.is_authentic.ensures ∙ c.if-not-is_authentic.false in
    let secret3 : c.as_slice-3.result.now ≡ c.in-Some.client.now.secret = c.as_slice-3.ensures.value ∙ ap (λ (k : Client). k.secret) c.client.view_is in
    let message : is_untrue c.args.c.now.require_ma (message_state_of c.in-Ok.p (zeros 16) c.in-Some.client.now.secret) ≡ false =
    ap (λ (s : List ℕ). is_untrue c.args.c.now.require_ma (message_state_of c.in-Ok.p (zeros 16) s)) (sym secret3)
    ∙ ap (λ (k : Config). is_untrue k.require_ma (message_state_of c.in-Ok.p (zeros 16) c.as_slice-3.result.now)) (sym c.c.view_is)
    ∙ sym c.is_untrue.ensures ∙ c.if-is_untrue.false in
    let new : newest_reply c.args.from.port (packet_text c.in-Ok.p) c.args.now c.in-Some.replies.now ≡ None =
    ap (λ (text : List ℕ). newest_reply c.args.from.port text c.args.now c.in-Some.replies.now) (sym c.text-2.ensures) ∙ sym c.look.ensures.reply ∙ ap reply_in c.in_default-look.is in
    let far : is_far c.args.now c.args.c.now.window (first_number EVENT_TIMESTAMP c.in-Ok.p.attributes) ≡ true =
    ap (λ (k : Config). is_far c.args.now k.window (first_number EVENT_TIMESTAMP c.in-Ok.p.attributes)) (sym c.c.view_is) ∙ sym c.is_stale.ensures ∙ c.if-is_stale.true in
    to-stale c.args.c.now c.in-Some.client.now c.in-Some.replies.now c.args.now rows c.args.from.port c.in-Ok.p long dynamic auth message new far ∙ sym whole

pub returns-in-Ok-answer-clause-line : goal.returns-in-Ok-answer-clause-line
returns-in-Ok-answer-clause-line g c =
    let rows = g.R.Roll.rows c.args.roll.now in
    let whole = judged-packet c.args.c.now c.args.kept.now c.args.now rows c.args.from c.args.b.now c.as_slice.result.now c.in-Some.client.now c.in-Some.replies.now
    (c.as_slice.ensures.value ∙ ap (λ (k : Config). k.clients) c.c.view_is) (sym c.client_of.ensures ∙ ap (option_map known) c.in-Some.is) c.in-Ok.p c.in-Ok.ensures.exact in
    let long : nat_lt MOST_REQUEST (length (packet_text c.in-Ok.p)) ≡ false = grind (arith, common_steps) in
    let dynamic : is_dynamic c.in-Ok.p.code ≡ true = grind (arith, common_steps) in
    let secret : c.as_slice-2.result.now ≡ c.in-Some.client.now.secret = c.as_slice-2.ensures.value ∙ ap (λ (k : Client). k.secret) c.client.view_is in
    let auth : bytes_eq c.in-Ok.p.authenticator (request_auth (packet_text c.in-Ok.p) c.in-Some.client.now.secret) ≡ true =
    ap (λ (s : List ℕ). bytes_eq c.in-Ok.p.authenticator (request_auth (packet_text c.in-Ok.p) s)) (sym secret) ∙ sym c.is_authentic.ensures ∙ c.if-not-is_authentic.false in
    let secret3 : c.as_slice-3.result.now ≡ c.in-Some.client.now.secret = c.as_slice-3.ensures.value ∙ ap (λ (k : Client). k.secret) c.client.view_is in
    let message : is_untrue c.args.c.now.require_ma (message_state_of c.in-Ok.p (zeros 16) c.in-Some.client.now.secret) ≡ false =
    ap (λ (s : List ℕ). is_untrue c.args.c.now.require_ma (message_state_of c.in-Ok.p (zeros 16) s)) (sym secret3)
    ∙ ap (λ (k : Config). is_untrue k.require_ma (message_state_of c.in-Ok.p (zeros 16) c.as_slice-3.result.now)) (sym c.c.view_is)
    ∙ sym c.is_untrue.ensures ∙ c.if-is_untrue.false in
    let new : newest_reply c.args.from.port (packet_text c.in-Ok.p) c.args.now c.in-Some.replies.now ≡ None =
    ap (λ (text : List ℕ). newest_reply c.args.from.port text c.args.now c.in-Some.replies.now) (sym c.text-2.ensures) ∙ sym c.look.ensures.reply ∙ ap reply_in c.in_default-look.is in
    let far : is_far c.args.now c.args.c.now.window (first_number EVENT_TIMESTAMP c.in-Ok.p.attributes) ≡ false =
    ap (λ (k : Config). is_far c.args.now k.window (first_number EVENT_TIMESTAMP c.in-Ok.p.attributes)) (sym c.c.view_is) ∙ sym c.is_stale.ensures ∙ c.if-is_stale.false in
    let line : Ack c.in-Ok-answer.action ≡ judged c.args.c.now c.args.kept.now c.args.now rows c.args.from c.args.b.now =
    sym (ap answered c.in-Ok-answer.is) ∙ c.answer.ensures ∙ to-refusals c.args.c.now c.in-Some.client.now c.in-Some.replies.now c.args.now rows c.args.from.port c.in-Ok.p long dynamic auth message new far ∙ sym whole in
    line

pub returns-in-Ok-answer-clause-request : goal.returns-in-Ok-answer-clause-request
returns-in-Ok-answer-clause-request g c =
    let rows = g.R.Roll.rows c.args.roll.now in
    let whole = judged-packet c.args.c.now c.args.kept.now c.args.now rows c.args.from c.args.b.now c.as_slice.result.now c.in-Some.client.now c.in-Some.replies.now
    (c.as_slice.ensures.value ∙ ap (λ (k : Config). k.clients) c.c.view_is) (sym c.client_of.ensures ∙ ap (option_map known) c.in-Some.is) c.in-Ok.p c.in-Ok.ensures.exact in
    let long : nat_lt MOST_REQUEST (length (packet_text c.in-Ok.p)) ≡ false = grind (arith, common_steps) in
    let dynamic : is_dynamic c.in-Ok.p.code ≡ true = grind (arith, common_steps) in
    let secret : c.as_slice-2.result.now ≡ c.in-Some.client.now.secret = c.as_slice-2.ensures.value ∙ ap (λ (k : Client). k.secret) c.client.view_is in
    let auth : bytes_eq c.in-Ok.p.authenticator (request_auth (packet_text c.in-Ok.p) c.in-Some.client.now.secret) ≡ true =
    ap (λ (s : List ℕ). bytes_eq c.in-Ok.p.authenticator (request_auth (packet_text c.in-Ok.p) s)) (sym secret) ∙ sym c.is_authentic.ensures ∙ c.if-not-is_authentic.false in
    let secret3 : c.as_slice-3.result.now ≡ c.in-Some.client.now.secret = c.as_slice-3.ensures.value ∙ ap (λ (k : Client). k.secret) c.client.view_is in
    let message : is_untrue c.args.c.now.require_ma (message_state_of c.in-Ok.p (zeros 16) c.in-Some.client.now.secret) ≡ false =
    ap (λ (s : List ℕ). is_untrue c.args.c.now.require_ma (message_state_of c.in-Ok.p (zeros 16) s)) (sym secret3)
    ∙ ap (λ (k : Config). is_untrue k.require_ma (message_state_of c.in-Ok.p (zeros 16) c.as_slice-3.result.now)) (sym c.c.view_is)
    ∙ sym c.is_untrue.ensures ∙ c.if-is_untrue.false in
    let new : newest_reply c.args.from.port (packet_text c.in-Ok.p) c.args.now c.in-Some.replies.now ≡ None =
    ap (λ (text : List ℕ). newest_reply c.args.from.port text c.args.now c.in-Some.replies.now) (sym c.text-2.ensures) ∙ sym c.look.ensures.reply ∙ ap reply_in c.in_default-look.is in
    let far : is_far c.args.now c.args.c.now.window (first_number EVENT_TIMESTAMP c.in-Ok.p.attributes) ≡ false =
    ap (λ (k : Config). is_far c.args.now k.window (first_number EVENT_TIMESTAMP c.in-Ok.p.attributes)) (sym c.c.view_is) ∙ sym c.is_stale.ensures ∙ c.if-is_stale.false in
    let line : Ack c.in-Ok-answer.action ≡ judged c.args.c.now c.args.kept.now c.args.now rows c.args.from c.args.b.now =
    sym (ap answered c.in-Ok-answer.is) ∙ c.answer.ensures ∙ to-refusals c.args.c.now c.in-Some.client.now c.in-Some.replies.now c.args.now rows c.args.from.port c.in-Ok.p long dynamic auth message new far ∙ sym whole in
    request-of c.args.c.now c.args.kept.now c.args.now rows c.args.from c.args.b.now (Ack c.in-Ok-answer.action) line

pub returns-in-Err-clause-line : goal.returns-in-Err-clause-line
returns-in-Err-clause-line g c =
    let rows = g.R.Roll.rows c.args.roll.now in
    let whole = judged-packet c.args.c.now c.args.kept.now c.args.now rows c.args.from c.args.b.now c.as_slice.result.now c.in-Some.client.now c.in-Some.replies.now
    (c.as_slice.ensures.value ∙ ap (λ (k : Config). k.clients) c.c.view_is) (sym c.client_of.ensures ∙ ap (option_map known) c.in-Some.is) c.in-Ok.p c.in-Ok.ensures.exact in
    let long : nat_lt MOST_REQUEST (length (packet_text c.in-Ok.p)) ≡ false = grind (arith, common_steps) in
    let dynamic : is_dynamic c.in-Ok.p.code ≡ true = grind (arith, common_steps) in
    let secret : c.as_slice-2.result.now ≡ c.in-Some.client.now.secret = c.as_slice-2.ensures.value ∙ ap (λ (k : Client). k.secret) c.client.view_is in
    let auth : bytes_eq c.in-Ok.p.authenticator (request_auth (packet_text c.in-Ok.p) c.in-Some.client.now.secret) ≡ true =
    ap (λ (s : List ℕ). bytes_eq c.in-Ok.p.authenticator (request_auth (packet_text c.in-Ok.p) s)) (sym secret) ∙ sym c.is_authentic.ensures ∙ c.if-not-is_authentic.false in
    let secret3 : c.as_slice-3.result.now ≡ c.in-Some.client.now.secret = c.as_slice-3.ensures.value ∙ ap (λ (k : Client). k.secret) c.client.view_is in
    let message : is_untrue c.args.c.now.require_ma (message_state_of c.in-Ok.p (zeros 16) c.in-Some.client.now.secret) ≡ false =
    ap (λ (s : List ℕ). is_untrue c.args.c.now.require_ma (message_state_of c.in-Ok.p (zeros 16) s)) (sym secret3)
    ∙ ap (λ (k : Config). is_untrue k.require_ma (message_state_of c.in-Ok.p (zeros 16) c.as_slice-3.result.now)) (sym c.c.view_is)
    ∙ sym c.is_untrue.ensures ∙ c.if-is_untrue.false in
    let new : newest_reply c.args.from.port (packet_text c.in-Ok.p) c.args.now c.in-Some.replies.now ≡ None =
    ap (λ (text : List ℕ). newest_reply c.args.from.port text c.args.now c.in-Some.replies.now) (sym c.text-2.ensures) ∙ sym c.look.ensures.reply ∙ ap reply_in c.in_default-look.is in
    let far : is_far c.args.now c.args.c.now.window (first_number EVENT_TIMESTAMP c.in-Ok.p.attributes) ≡ false =
    ap (λ (k : Config). is_far c.args.now k.window (first_number EVENT_TIMESTAMP c.in-Ok.p.attributes)) (sym c.c.view_is) ∙ sym c.is_stale.ensures ∙ c.if-is_stale.false in
    let line : Nak c.in-Err.cause ≡ judged c.args.c.now c.args.kept.now c.args.now rows c.args.from c.args.b.now =
    sym (ap answered c.in-Err.is) ∙ c.answer.ensures ∙ to-refusals c.args.c.now c.in-Some.client.now c.in-Some.replies.now c.args.now rows c.args.from.port c.in-Ok.p long dynamic auth message new far ∙ sym whole in
    line

pub returns-in-Ok-answer-clause-acked : goal.returns-in-Ok-answer-clause-acked
returns-in-Ok-answer-clause-acked g c =
    acknowledged_actions c.args.c.now c.args.kept.now c.args.now (g.R.Roll.rows c.args.roll.now) c.args.from c.args.b.now c.in-Ok-answer.action (sym (returns-in-Ok-answer-clause-line g c))

pub returns-in-Err-clause-request : goal.returns-in-Err-clause-request
returns-in-Err-clause-request g c =
    let rows = g.R.Roll.rows c.args.roll.now in
    let whole = judged-packet c.args.c.now c.args.kept.now c.args.now rows c.args.from c.args.b.now c.as_slice.result.now c.in-Some.client.now c.in-Some.replies.now
    (c.as_slice.ensures.value ∙ ap (λ (k : Config). k.clients) c.c.view_is) (sym c.client_of.ensures ∙ ap (option_map known) c.in-Some.is) c.in-Ok.p c.in-Ok.ensures.exact in
    let long : nat_lt MOST_REQUEST (length (packet_text c.in-Ok.p)) ≡ false = grind (arith, common_steps) in
    let dynamic : is_dynamic c.in-Ok.p.code ≡ true = grind (arith, common_steps) in
    let secret : c.as_slice-2.result.now ≡ c.in-Some.client.now.secret = c.as_slice-2.ensures.value ∙ ap (λ (k : Client). k.secret) c.client.view_is in
    let auth : bytes_eq c.in-Ok.p.authenticator (request_auth (packet_text c.in-Ok.p) c.in-Some.client.now.secret) ≡ true =
    ap (λ (s : List ℕ). bytes_eq c.in-Ok.p.authenticator (request_auth (packet_text c.in-Ok.p) s)) (sym secret) ∙ sym c.is_authentic.ensures ∙ c.if-not-is_authentic.false in
    let secret3 : c.as_slice-3.result.now ≡ c.in-Some.client.now.secret = c.as_slice-3.ensures.value ∙ ap (λ (k : Client). k.secret) c.client.view_is in
    let message : is_untrue c.args.c.now.require_ma (message_state_of c.in-Ok.p (zeros 16) c.in-Some.client.now.secret) ≡ false =
    ap (λ (s : List ℕ). is_untrue c.args.c.now.require_ma (message_state_of c.in-Ok.p (zeros 16) s)) (sym secret3)
    ∙ ap (λ (k : Config). is_untrue k.require_ma (message_state_of c.in-Ok.p (zeros 16) c.as_slice-3.result.now)) (sym c.c.view_is)
    ∙ sym c.is_untrue.ensures ∙ c.if-is_untrue.false in
    let new : newest_reply c.args.from.port (packet_text c.in-Ok.p) c.args.now c.in-Some.replies.now ≡ None =
    ap (λ (text : List ℕ). newest_reply c.args.from.port text c.args.now c.in-Some.replies.now) (sym c.text-2.ensures) ∙ sym c.look.ensures.reply ∙ ap reply_in c.in_default-look.is in
    let far : is_far c.args.now c.args.c.now.window (first_number EVENT_TIMESTAMP c.in-Ok.p.attributes) ≡ false =
    ap (λ (k : Config). is_far c.args.now k.window (first_number EVENT_TIMESTAMP c.in-Ok.p.attributes)) (sym c.c.view_is) ∙ sym c.is_stale.ensures ∙ c.if-is_stale.false in
    let line : Nak c.in-Err.cause ≡ judged c.args.c.now c.args.kept.now c.args.now rows c.args.from c.args.b.now =
    sym (ap answered c.in-Err.is) ∙ c.answer.ensures ∙ to-refusals c.args.c.now c.in-Some.client.now c.in-Some.replies.now c.args.now rows c.args.from.port c.in-Ok.p long dynamic auth message new far ∙ sym whole in
    request-of c.args.c.now c.args.kept.now c.args.now rows c.args.from c.args.b.now (Nak c.in-Err.cause) line
