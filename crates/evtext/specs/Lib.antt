pub mod Operands
pub mod Event
pub mod Outcome
pub mod Script
pub mod Log
pub mod Written
