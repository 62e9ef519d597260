-- What rests on the definitions of specs/, and is cited no further there.
pub mod PairLaws
pub mod ReadBack
pub mod StepLaws
