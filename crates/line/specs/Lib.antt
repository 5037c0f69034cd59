pub mod Collinear
