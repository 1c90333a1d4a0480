mod WordLemmas
mod HexLemmas
mod VlanLemmas
mod Valid
