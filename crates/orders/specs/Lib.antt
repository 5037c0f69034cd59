pub mod ShortFirst
