-- On the way to theorems: SlotsLaws (places within the message). Of functions: Turns.
pub mod SlotsLaws
pub mod Turns
