-- What these modules define stands under Rattle.whole_runs.specs.
pub mod Verified
