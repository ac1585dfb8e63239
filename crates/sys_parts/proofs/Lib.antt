pub mod Unlike
