pub mod RichRow
pub mod AgainstRow
pub mod AssumingRow
pub mod PlaceRows
