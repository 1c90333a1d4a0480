pub mod Eap
