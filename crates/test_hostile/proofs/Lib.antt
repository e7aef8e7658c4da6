pub mod MisfiledLaws
