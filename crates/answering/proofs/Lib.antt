pub mod StepLines
pub mod Printed
pub mod FewRows
pub mod Roomy
pub mod EmptyBook
pub mod NeverSpent
