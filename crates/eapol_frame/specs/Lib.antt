pub mod Eapol
