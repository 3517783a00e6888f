mod SquareLemmas
mod FirstFiles
