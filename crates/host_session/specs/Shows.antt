-- What is read off the variables that a session stands for.
use Rattle.std.specs.Prelude.{Bool, true, false}
use Rattle.machine_vars.specs.declared.states.EapState.{EapState}
use Rattle.machine_vars.specs.declared.states.EapState.TheVariants.{AaaIdle}

-- the state that waits for the server (RFC 4137, 7.2)
abbrev pub is_aaa_idle : EapState → Bool
is_aaa_idle AaaIdle = true
is_aaa_idle _ = false
