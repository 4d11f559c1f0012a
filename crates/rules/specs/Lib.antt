pub mod Alone
pub mod Context
pub mod Deployment
pub mod Params
