pub mod Robin
