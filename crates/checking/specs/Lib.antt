pub mod CheckStages
