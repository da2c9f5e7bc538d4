pub mod QueryLines
