pub mod Counter
pub mod Five
pub mod Ready
