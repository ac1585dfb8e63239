pub mod PairRows
pub mod Ways
pub mod EquationOrders
pub mod SlowLocal
