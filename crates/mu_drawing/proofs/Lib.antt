mod MarkSteps
mod Results
mod Tooltips
