pub mod Sheet
