mod FirstWords
mod Going
mod Growing
