-- Lists of steps, played by the store and by wrong stores: the rows that they tell, and of each wrong store the fields of the claim that it
-- breaks. All of it is computed on the definitions of `claim`.
pub mod Rows
pub mod Wrong
