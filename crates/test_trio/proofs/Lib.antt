mod Edges
mod Named
