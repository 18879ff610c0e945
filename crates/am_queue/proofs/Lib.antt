pub mod Finishing
pub mod Keeping
pub mod Ordering
pub mod Refusals
pub mod Rising
pub mod SendLaws
pub mod Soonest
pub mod Soundness
