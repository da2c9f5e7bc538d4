pub mod ReaderLawsNodes
