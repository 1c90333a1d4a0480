mod Simply
