pub mod Outside
pub mod Text
pub mod Number
pub mod Ethernet
pub mod Station
pub mod Eapol
pub mod Eap
