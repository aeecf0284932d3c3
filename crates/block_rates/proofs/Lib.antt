pub mod StageRuns
pub mod StageTurns
pub mod LevelSteps
pub mod PitchSteps
pub mod LfoSteps
