pub mod LeastTest
pub mod NeedTest
pub mod EvaluationTest
pub mod OrderRows
pub mod PastTest
pub mod PastRows
