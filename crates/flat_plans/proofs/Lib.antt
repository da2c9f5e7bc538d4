pub mod FlatPlans
