pub mod HeightSets
