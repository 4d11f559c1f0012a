pub mod OpeningViews
