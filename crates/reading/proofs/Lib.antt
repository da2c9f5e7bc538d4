pub mod ReaderLawsQuery
