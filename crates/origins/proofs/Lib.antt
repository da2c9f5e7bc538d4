pub mod StepOrigins
