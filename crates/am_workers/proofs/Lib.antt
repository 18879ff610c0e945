pub mod ClockLemmas
pub mod CrewLemmas
pub mod FormedLemmas
pub mod ServingLemmas
pub mod WorkLemmas
