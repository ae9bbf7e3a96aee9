pub mod Form
pub mod Image
