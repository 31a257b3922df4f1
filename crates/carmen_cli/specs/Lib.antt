pub mod TopCall
pub mod Program
