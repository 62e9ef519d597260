-- A whole text, played on lent tables into a lent space. To believe: Text; the others hold laws and examples.
pub mod TextPlayed
pub mod Text
pub mod TextLaws
pub mod SaidLaws
pub mod Examples
