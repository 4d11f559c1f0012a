pub mod Numbers
pub mod Grammar
pub mod computed
pub mod laws
