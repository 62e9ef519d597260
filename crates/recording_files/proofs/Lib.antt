-- What rests on the definitions of specs/, and is cited no further there.
pub mod FileLaws
pub mod NumberLaws
