mod Back
mod WholeBack
mod Texts
