pub mod BroadcastLemmas
