use Rattle.std.proofs.Common.{◌∙◌}
use Rattle.switch_defs.specs.Session.{ask_if, forget_if}
use Rattle.host_sessions.proofs.Turning.{asked_at, forgot_at, forgot_config}
use Rattle.host_sessions.proofs.sessions.Sessions.follow.Goals as goal

pub ask_if-requires-clause-may : goal.ask_if-requires-clause-may
ask_if-requires-clause-may c = λ e.
    let k = c.args.self.now in
    let y = c.requires.may.0 in
    let s = c.requires.may.1 in
    let m = c.requires.may.2 in
    let b = c.args.wants.abort in (
      y,
      forget_if b y.host s,
      record {
        holds = c.forget_if.ensures.holds y s m.has.holds m.has.here;
        config = forgot_config b y.host s ∙ m.has.config;
        here = forgot_at b c.args.at y k c.forget_if.new.self y.host s c.forget_if.ensures.slots m.has.here;
      },
      m.asks e,
    )

pub close_if-requires : goal.close_if-requires
close_if-requires c =
    let k = c.args.self.now in
    let y = c.requires.may.0 in
    let s = c.requires.may.1 in
    let m = c.requires.may.2 in
    let b = c.args.wants.abort in
    let t = forget_if b y.host s in
    let here = forgot_at b c.args.at y k c.forget_if.new.self y.host s c.forget_if.ensures.slots m.has.here in
    let d = c.ask_if.ensures.does y t (record {
      holds = c.forget_if.ensures.holds y s m.has.holds m.has.here;
      config = forgot_config b y.host s ∙ m.has.config;
      here = here;
    }) m.asks in (
      y,
      (ask_if c.args.wants.ask y.host y.standing t).state,
      d.holds,
      asked_at c.args.wants.ask c.args.at y c.forget_if.new.self c.ask_if.new.self y.host y.standing t c.ask_if.ensures.slots here,
    )

pub returns-clause-does : goal.returns-clause-does
returns-clause-does c = λ y s m.
    let k = c.args.self.now in
    let b = c.args.wants.abort in
    let t = forget_if b y.host s in
    let here = forgot_at b c.args.at y k c.forget_if.new.self y.host s c.forget_if.ensures.slots m.has.here in
    let d = c.ask_if.ensures.does y t (record {
      holds = c.forget_if.ensures.holds y s m.has.holds m.has.here;
      config = forgot_config b y.host s ∙ m.has.config;
      here = here;
    }) m.asks in
    record {
      holds = c.close_if.ensures.holds y (ask_if c.args.wants.ask y.host y.standing t).state d.holds
          (asked_at c.args.wants.ask c.args.at y c.forget_if.new.self c.ask_if.new.self y.host y.standing t c.ask_if.ensures.slots here);
      sent = d.sent;
    }
