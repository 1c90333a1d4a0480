use Rattle.host_sessions.proofs.sessions.Sessions.disconnect.Goals as goal

pub returns-clause-does : goal.returns-clause-does
returns-clause-does c = λ y s holds i goes_on. record {
  holds = c.close.ensures.holds y s holds i;
  sent = c.say_failure.ensures.sent y s i goes_on;
}
