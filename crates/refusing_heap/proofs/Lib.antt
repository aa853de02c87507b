mod Counted
mod Due
